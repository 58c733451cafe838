-- `time_log::judging::judge_parts` meets its contract: each return is a case of the definition.
use mathlib.Core.Path.{sym, ◌∙◌}
use borrow.Author.Tests.{lt-ltb, le-ltb}
use Rattle.time_log.specs.Within.{refusal_by}
use Rattle.time_log.proofs.judging.judge_parts.Goals as goal

pub returns-then-time-gt86399999 : goal.returns-then-time-gt86399999
unfolding refusal_by
returns-then-time-gt86399999 c = rw (lt-ltb _ _ c.if-time-gt86399999.true)

pub returns-then-north-gt900000000 : goal.returns-then-north-gt900000000
unfolding refusal_by
returns-then-north-gt900000000 c = rw (le-ltb _ _ c.if-time-gt86399999.false, lt-ltb _ _ c.if-north-gt900000000.true)

pub returns-then-east-gt1800000000 : goal.returns-then-east-gt1800000000
unfolding refusal_by
returns-then-east-gt1800000000 c = rw (le-ltb _ _ c.if-time-gt86399999.false, le-ltb _ _ c.if-north-gt900000000.false, lt-ltb _ _ c.if-east-gt1800000000.true)

pub returns-then-not-known_status : goal.returns-then-not-known_status
unfolding refusal_by
returns-then-not-known_status c = rw (le-ltb _ _ c.if-time-gt86399999.false, le-ltb _ _ c.if-north-gt900000000.false, le-ltb _ _ c.if-east-gt1800000000.false, sym c.known_status.ensures ∙ c.if-not-known_status.true)

pub returns-then-over : goal.returns-then-over
unfolding refusal_by
returns-then-over c = rw (le-ltb _ _ c.if-time-gt86399999.false, le-ltb _ _ c.if-north-gt900000000.false, le-ltb _ _ c.if-east-gt1800000000.false, sym c.known_status.ensures ∙ c.if-not-known_status.false, c.if-over.true)

pub returns : goal.returns
unfolding refusal_by
returns c = rw (le-ltb _ _ c.if-time-gt86399999.false, le-ltb _ _ c.if-north-gt900000000.false, le-ltb _ _ c.if-east-gt1800000000.false, sym c.known_status.ensures ∙ c.if-not-known_status.false, c.if-over.false)
