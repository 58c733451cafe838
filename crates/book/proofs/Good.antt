-- What holds of every book that a list of calls leads to, and of the areas. Assumes nothing.
use mathlib.Core.Path.{◌≡◌, refl, sym}
use mathlib.Core.Bool.{Bool, true, false, not, cond, ◌&&◌, true≢false}
use mathlib.Core.List.{List}
use Prim.Native.Nat.{ℕ, ◌≤◌, ◌<◌}
use native.Mathlib.Omega.{arith}
use borrow.Author.Tests.{le-ltb, eq-eqb, ne_eqb}
use lib.Dec.{eqb, ltb}
use lib.ListN.{length}
use Rattle.session.specs.Calls.{impossible}
use Rattle.book.specs.Book.{Book, blank, over}
use Rattle.book.specs.Run.{session_of, Starts}

-- ls and lk are the lengths of staging and of the kept area
pub record Good (ls lk : ℕ) (b : Book) (st k : List ℕ) : Type 0 where
  pub long-st : length st ≡ ls
  pub long-k : length k ≡ lk
  pub size : b.announced ≤ 65535
  pub kept-size : length b.kept ≤ 65535
  pub part : length b.arrived ≤ b.announced
  pub in-st : b.announced ≤ ls
  pub in-k : b.announced ≤ lk
  pub kept_in : length b.kept ≤ lk
  pub some : b.offered ≡ true → 0 < b.announced
  pub none : b.offered ≡ false → b.announced ≡ 0
  pub live : b.active ≡ true → 0 < length b.kept
  pub staged : Starts st b.arrived
  pub stored : Starts k b.kept

-- stage and active are 0 or 1, and say what the book says
pub is_one : (o : Bool) → eqb (cond o 1 0) 1 ≡ o
is_one true = refl
is_one false = refl

pub is-zero : (o : Bool) → eqb (cond o 1 0) 0 ≡ not o
is-zero true = refl
is-zero false = refl

at_most_one : (o : Bool) → ltb 1 (cond o 1 0) ≡ false
at_most_one true = refl
at_most_one false = refl

not-zero : (a : Bool) (n : ℕ) → (a ≡ true → 0 < n) → (a && eqb n 0) ≡ false
not-zero true n h = ne_eqb n 0 (λ (z : n ≡ 0). let k = h refl in omega arith)
not-zero false n h = refl

no-trace : (o : Bool) (n : ℕ) → (o ≡ false → n ≡ 0) → (not o && not (eqb n 0)) ≡ false
no-trace true n h = refl
no-trace false n h = rw (eq-eqb n 0 (h refl))

pub possible : (ls lk : ℕ) (b : Book) (st k : List ℕ) → Good ls lk b st k → impossible (session_of b) ≡ false
unfolding impossible
possible ls lk b st k g =
    let received : b.offered ≡ false → length b.arrived ≡ 0 = λ (o : b.offered ≡ false). omega (arith, g.none o, g.part) in
    rw (
      at_most_one b.offered,
      at_most_one b.active,
      le-ltb 65535 b.announced g.size,
      le-ltb 65535 (length b.kept) g.kept-size,
      is_one b.offered,
      is_one b.active,
      not-zero b.offered b.announced g.some,
      le-ltb b.announced (length b.arrived) g.part,
      not-zero b.active (length b.kept) g.live,
      no-trace b.offered b.announced g.none,
      no-trace b.offered (length b.arrived) received,
    )

-- the book of a new session, and a stage's end
pub blank-good : (st k : List ℕ) → Good (length st) (length k) blank st k
blank-good st k =
    record {
      long-st = refl;
      long-k = refl;
      size = omega arith;
      kept-size = omega arith;
      part = omega arith;
      in-st = omega arith;
      in-k = omega arith;
      kept_in = omega arith;
      some = λ o. absurd (true≢false (sym o));
      none = λ o. refl;
      live = λ a. absurd (true≢false (sym a));
      staged = refl;
      stored = refl;
    }

pub over-good : (ls lk : ℕ) (b : Book) (st k : List ℕ) → Good ls lk b st k → Good ls lk (over b) st k
over-good ls lk b st k g =
    record {
      long-st = g.long-st;
      long-k = g.long-k;
      size = omega arith;
      kept-size = g.kept-size;
      part = omega arith;
      in-st = omega arith;
      in-k = omega arith;
      kept_in = g.kept_in;
      some = λ o. absurd (true≢false (sym o));
      none = λ o. refl;
      live = g.live;
      staged = refl;
      stored = g.stored;
    }
