-- Reading the input to its end: what the answers of the system's reads mean. Definitions only.
use Rattle.std.specs.Prelude.{ℕ, zero, suc, ◌+◌, cond, leb, Option, Some, None, Result, Ok, Err}
use Rattle.lister.specs.declared.ReadFailed.{ReadFailed}

-- reading has failed
abbrev pub failed : ReadFailed
failed = record {}

-- what a read's answer means after n bytes: a read that fails, or one that gives more bytes than there is room for, is a failure and never
-- the end; a read of no bytes is the end; after any other there are as many bytes more
abbrev pub input_after : {E : Type 0} → ℕ → Result ℕ E → ℕ → Result (Option ℕ) ReadFailed
input_after n (Ok zero) room = Ok None
input_after n (Ok (suc k)) room = cond (leb (suc k) room) (Ok (Some (n + suc k))) (Err failed)
input_after n (Err error) room = Err failed
