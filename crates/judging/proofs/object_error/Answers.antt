-- `judging::object_error` meets its contract: each return is a case of the definition.
use mathlib.Core.Path.{sym, ◌∙◌}
use Rattle.judging.specs.Judging.{error_of_object}
use Rattle.judging.proofs.object_error.Goals as goal

pub returns-then-lacks_setting : goal.returns-then-lacks_setting
unfolding error_of_object
returns-then-lacks_setting c = rw (sym c.lacks_setting.ensures ∙ c.if-lacks_setting.true)

pub returns-then-lacks_trigger : goal.returns-then-lacks_trigger
unfolding error_of_object
returns-then-lacks_trigger c = rw (sym c.lacks_setting.ensures ∙ c.if-lacks_setting.false, sym c.lacks_trigger.ensures ∙ c.if-lacks_trigger.true)

pub returns-then-lacks_interval : goal.returns-then-lacks_interval
unfolding error_of_object
returns-then-lacks_interval c = rw (sym c.lacks_setting.ensures ∙ c.if-lacks_setting.false, sym c.lacks_trigger.ensures ∙ c.if-lacks_trigger.false, sym c.lacks_interval.ensures ∙ c.if-lacks_interval.true)

pub returns : goal.returns
unfolding error_of_object
returns c = rw (sym c.lacks_setting.ensures ∙ c.if-lacks_setting.false, sym c.lacks_trigger.ensures ∙ c.if-lacks_trigger.false, sym c.lacks_interval.ensures ∙ c.if-lacks_interval.false)
