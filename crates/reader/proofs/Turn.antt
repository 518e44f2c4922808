-- A turn of the loop that reads records.
--     Reads s n h i   the invariant: i of n records are read into h
--     turn_next       the next record is not refused
--     turn_stop       the next record is refused, and so is the table
--     turn_end        all are read
--     turns           these three, and that the next record comes next, for `read`
-- Assumes nothing.
use Rattle.std.proofs.Common.{◌≡◌, ap, List, ℕ, suc, ◌+◌, ◌-◌, ◌≤◌, ◌<◌, arith}
use Rattle.std.specs.Prelude.{Result, Ok, Err}
use Rattle.reader.specs.declared.Tally.{Tally}
use Rattle.reader.specs.declared.Fault.{Fault}
use Rattle.reader.specs.Table.{place_of, record_of, end_of, onward, go_on, read_of}
use Rattle.reader.proofs.Passed.{next_place}

pub record Reads (s : List ℕ) (n : ℕ) (h : Tally) (i : ℕ) : Type 0 where
  -- the next record is number i
  pub place : place_of h ≡ i
  -- what is left, judged from h, gives what the whole table gives
  pub rest : go_on s (n - i) h ≡ read_of s

module _ (s : List ℕ) (n i : ℕ) (h : Tally) where
  one_less : i < n → n - i ≡ suc (n - (i + 1))
  one_less l = omega arith

  turn : (r : Result Tally Fault) → i < n → record_of s h ≡ r
      → go_on s (n - i) h ≡ onward r (go_on s (n - (i + 1)))
  unfolding go_on
  turn r l e =
      rw (one_less l) (ap (λ (r : Result Tally Fault). onward r (go_on s (n - (i + 1)))) e)

  pub turn_next : (g : Tally) → i < n → record_of s h ≡ Ok g
      → go_on s (n - i) h ≡ go_on s (n - (i + 1)) g
  turn_next g l e = turn (Ok g) l e

  pub turn_stop : (e : Fault) → i < n → record_of s h ≡ Err e → go_on s (n - i) h ≡ Err e
  turn_stop a l e = turn (Err a) l e

  pub turn_end : n ≤ i → go_on s (n - i) h ≡ end_of h
  unfolding go_on
  turn_end l = let z : n - i ≡ 0 = omega arith in rw z

pub ruleset turns = (turn_next, turn_stop, turn_end, next_place)
