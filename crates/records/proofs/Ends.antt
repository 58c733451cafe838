-- Where a field ends, case by case. Assumes nothing.
use mathlib.Core.Path.{◌≡◌}
use mathlib.Core.Bool.{cond}
use mathlib.Core.List.{List}
use Prim.Native.Nat.{ℕ, ◌+◌, ◌*◌, ◌≤◌, ◌<◌}
use native.Mathlib.Omega.{arith}
use borrow.Author.Tests.{le-leb, lt-leb, lt-ltb, le-ltb}
use lib.Dec.{leb}
use lib.ListN.{length, get_or}
use Rattle.std.specs.Prelude.{Ok, Err}
use Rattle.wire.specs.Bytes.{number_in}
use Rattle.records.specs.Layout.{fixed, text, entries, mark_of, three}
use Rattle.records.specs.Extents.{field_end, marked_end, extent_of}
use Rattle.records.specs.declared.Flaw.TheVariants.{Cut, LengthOver}

module _ (n : ℕ) (p : List ℕ) (at : ℕ) where
  pub fixed-cut : length p < at + n → field_end (fixed n) p at ≡ Err Cut
  unfolding field_end
  fixed-cut h = rw (lt-leb (at + n) (length p) h)

  pub fixed-whole : at + n ≤ length p → field_end (fixed n) p at ≡ Ok (at + n)
  unfolding field_end
  fixed-whole h = rw (le-leb (at + n) (length p) h)

  -- the test of an end
  pub fixed-tested : (e : ℕ) → e ≡ at + n → cond (leb e (length p)) (Ok e) (Err Cut) ≡ field_end (fixed n) p at
  unfolding field_end
  fixed-tested e h = rw h

module _ (limit : ℕ) (p : List ℕ) (at : ℕ) where
  pub text-missing : length p ≤ at → field_end (text limit) p at ≡ Err Cut
  unfolding field_end
  text-missing h = rw (le-ltb at (length p) h)

  pub text-over : at < length p → limit < get_or p at 0 → field_end (text limit) p at ≡ Err (LengthOver at)
  unfolding field_end
  text-over h o = rw (lt-ltb at (length p) h, lt-leb (get_or p at 0) limit o)

  pub text-cut : at < length p → get_or p at 0 ≤ limit → length p < at + 1 + get_or p at 0 → field_end (text limit) p at ≡ Err Cut
  unfolding field_end
  text-cut h o c = rw (lt-ltb at (length p) h, le-leb (get_or p at 0) limit o, lt-leb (at + 1 + get_or p at 0) (length p) c)

  pub text-whole : at < length p → get_or p at 0 ≤ limit → at + 1 + get_or p at 0 ≤ length p → field_end (text limit) p at ≡ Ok (at + 1 + get_or p at 0)
  unfolding field_end
  text-whole h o c = rw (lt-ltb at (length p) h, le-leb (get_or p at 0) limit o, le-leb (at + 1 + get_or p at 0) (length p) c)

module _ (p : List ℕ) (at : ℕ) where
  pub count_cut : length p < at + 2 → field_end entries p at ≡ Err Cut
  unfolding field_end
  count_cut h = rw (lt-leb (at + 2) (length p) h)

  pub entries-cut : at + 2 ≤ length p → length p < at + 2 + 2 * number_in 2 p at → field_end entries p at ≡ Err Cut
  unfolding field_end
  entries-cut h c = rw (le-leb (at + 2) (length p) h, lt-leb (at + 2 + 2 * number_in 2 p at) (length p) c)

  pub entries-whole : at + 2 + 2 * number_in 2 p at ≤ length p → field_end entries p at ≡ Ok (at + 2 + 2 * number_in 2 p at)
  unfolding field_end
  entries-whole h = rw (le-leb (at + 2) (length p) (omega arith), le-leb (at + 2 + 2 * number_in 2 p at) (length p) h)

  -- the test of an end
  pub entries-tested : (e : ℕ) → at + 2 ≤ length p → e ≡ at + 2 + 2 * number_in 2 p at → cond (leb e (length p)) (Ok e) (Err Cut) ≡ field_end entries p at
  unfolding field_end
  entries-tested e h is = rw (le-leb (at + 2) (length p) h, is)

  pub mark-cut : length p < at + 3 → extent_of p at ≡ Err Cut
  unfolding extent_of
  mark-cut h = rw (lt-leb (at + 3) (length p) h)

  pub mark-whole : at + 3 ≤ length p → extent_of p at ≡ marked_end (mark_of (three p at)) p (at + 3)
  unfolding extent_of
  mark-whole h = rw (le-leb (at + 3) (length p) h)
