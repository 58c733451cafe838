-- A worked session: some twenty calls over two areas of 80 bytes, the answer to each, and what is kept on the way.
-- Definitions only.
use Rattle.std.specs.Prelude.{◌≡◌, List, [], ◌∷◌, ◌++◌, take, drop, replicate}
use Rattle.working_table.specs.declared.Record.{Record}
use Rattle.working_table.specs.Table.{blank}
use Rattle.faults.specs.Faults.{fault_entry}
use Rattle.book.specs.Book as Book
use Rattle.book.specs.Book.{Said, said, book_of, said_of, Call, offer, transfer, activate, deactivate, delete, lost}
use Rattle.cases.specs.Pools.{pool_q}

-- a call, and the answer to it
pub record Line : Type 0 where
  pub call : Call
  pub told : Said

-- a line, by its call and its answer
abbrev gets : Call → Said → Line
gets c q = record { call = c; told = q }

-- a table of ten entries
abbrev table : List Record
table = replicate 10 blank

-- a pool is offered, sent and activated, with wrong calls in between
abbrev pub opening : List Line
opening =
    -- nothing is kept or offered yet
    gets (activate table) (said 21 0)
    ∷ gets (transfer pool_q) (said 21 0)
    -- offers of nothing, of more than the areas have, and of Q
    ∷ gets (offer 0) (said 20 0)
    ∷ gets (offer 81) (said 26 0)
    ∷ gets (offer 71) (said 0 0)
    -- an empty piece, and 44 bytes, which are whole records: activating answers that it stopped early, and not that it is accepted
    ∷ gets (transfer []) (said 22 0)
    ∷ gets (transfer (take 44 pool_q)) (said 0 0)
    ∷ gets (activate table) (said 23 0)
    -- a refused offer leaves the first one in force; a piece that is one byte too long, and then the rest
    ∷ gets (offer 65536) (said 20 0)
    ∷ gets (transfer (drop 44 pool_q ++ 0 ∷ [])) (said 22 0)
    ∷ gets (transfer (drop 44 pool_q)) (said 0 0)
    -- the table is too short for four records; with one that is long enough Q is activated
    ∷ gets (activate []) (said 7 4)
    ∷ gets (activate table) (said 0 0)
    ∷ []

-- it is deactivated and activated again; a pool with a fault is refused; the connection is lost, and the pool is deleted
abbrev pub rest : List Line
rest =
    gets deactivate (said 0 0)
    ∷ gets deactivate (said 25 0)
    ∷ gets (activate table) (said 0 0)
    -- the first 59 bytes of Q as a pool of their own: the first fault is answered with the IDs of its
    -- device element, 2, and of that one's parent, 1; the stage ends, Q stays kept
    ∷ gets (offer 59) (said 0 0)
    ∷ gets (transfer (take 59 pool_q)) (said 0 0)
    ∷ gets (activate table) (record { number = 24; place = 0; first = fault_entry 3 6 2 2 1 })
    ∷ gets (transfer pool_q) (said 21 0)
    -- a lost connection ends an offer and deactivates the pool; the kept pool is activated again, and deleted
    ∷ gets (offer 44) (said 0 0)
    ∷ gets lost (said 0 0)
    ∷ gets (activate []) (said 0 0)
    ∷ gets delete (said 0 0)
    ∷ gets (activate table) (said 21 0)
    ∷ []

-- the calls of some lines
abbrev pub calls_in : List Line → List Call
calls_in [] = []
calls_in (l ∷ ls) = l.call ∷ calls_in ls

-- the answers of some lines
abbrev pub told_in : List Line → List Said
told_in [] = []
told_in (l ∷ ls) = l.told ∷ told_in ls

-- the answers of the session, line by line, and the pool that is kept in the course of it
pub record Worked : Type 0 where
  pub told : said_of 80 80 Book.blank (calls_in (opening ++ rest)) ≡ told_in (opening ++ rest)
  -- Q is kept once it has been activated, and stays until it is deleted
  pub kept : (book_of 80 80 Book.blank (calls_in opening)).kept ≡ pool_q
  pub still : (book_of 80 80 Book.blank (calls_in (opening ++ take 10 rest))).kept ≡ pool_q
  pub gone : (book_of 80 80 Book.blank (calls_in (opening ++ rest))).kept ≡ []
