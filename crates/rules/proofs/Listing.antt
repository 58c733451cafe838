-- The breach list is in order and holds exactly the breaches. That each record has a kind is not needed. Assumes nothing.
use mathlib.Core.List.{List, Memᴰ}
use Prim.Native.Nat.{ℕ, suc}
use lib.ListN.{length}
use Rattle.faults.specs.Faults.{Fault}
use Rattle.faults.proofs.Order.{found, listed, ascending}
use Rattle.pool.specs.Reading.{Entry}
use Rattle.rules.specs.Breach.{Breach}
use Rattle.rules.specs.Table.{rows_of, breaches_in}
use Rattle.rules.specs.Listed.{Listed}
use Rattle.rules.proofs.Parts.{ordered}
use Rattle.rules.proofs.Sound.{found-breach}
use Rattle.rules.proofs.Complete.{breach-found}

module _ (p : List ℕ) (es : List Entry) where
  only-breaches : (f : Fault) → Memᴰ f (breaches_in p es) → Breach p es f.number f.rule f.item
  unfolding breaches_in
  only-breaches f m = found-breach p es f (found (rows_of p es) (suc (length es)) f m)

  every-breach : (f : Fault) → Breach p es f.number f.rule f.item → Memᴰ f (breaches_in p es)
  unfolding breaches_in
  every-breach f b = listed (rows_of p es) (suc (length es)) f (breach-found b)

  pub breaches-listed : Listed p es
  unfolding breaches_in
  breaches-listed =
      record {
        ascending = ascending (rows_of p es) (suc (length es)) (ordered p es);
        exact = λ (f : Fault). (only-breaches f, every-breach f);
      }
