-- What a table says, or by which refusal it is refused (2 to 8). Records are read in order, and the
-- first with a fault decides.
--     place_of h       how many records were read: the next record's place
--     refuse_if b e r  refused by e where the test holds, else what follows
--     refuse_at o p r  refused for the byte that was found in record p, else what follows
--     node_of s h      a node record: 3, 4, 5, or one node more
--     link_of s h      a link record: 3, 8, 6, 7, or one link more
--     record_of s h    the next record, by its kind
--     end_of h         after all records: no source is 5
--     onward r k       a refusal stays, else k goes on
--     go_on s n h      the next n records, judged from what was read, and the end
--     start            before any record
--     read_of s        the reading of a table's bytes
-- Assumes nothing.
use Rattle.std.specs.Prelude.{Bool, true, false, not, List, ℕ, zero, suc, ◌+◌, ◌/◌, ◌%◌, length, Option, Some, None, is_some, Result, Ok, Err, ◌==◌, nat_lt, nat_le, if◌then◌else◌}
use Rattle.network.specs.Search.{on_found}
use Rattle.records.specs.Bytes.{kind_of, role_of, number_of, one_end, other_end, bad_node, bad_link}
use Rattle.reader.specs.declared.Shape.{Shape}
use Rattle.reader.specs.declared.Tally.{Tally}
use Rattle.reader.specs.declared.Fault.{Fault}
use Rattle.reader.specs.declared.Fault.TheVariants.{Length, Byte, Number, SecondSource, NoSource, End, SelfLink, TooManyLinks}

abbrev pub place_of : Tally → ℕ
place_of h = h.nodes + h.links

unfoldable pub refuse_if : {A : Type 0} → Bool → Fault → Result A Fault → Result A Fault
refuse_if true e r = Err e
refuse_if false e r = r

unfoldable pub refuse_at : {A : Type 0} → Option ℕ → ℕ → Result A Fault → Result A Fault
refuse_at (Some k) p r = Err (Byte p k)
refuse_at None p r = r

unfoldable pub node_of : List ℕ → Tally → Result Tally Fault
node_of s h =
    let p : ℕ = place_of h in
    let more : Option ℕ → Result Tally Fault =
    λ source. Ok (record { nodes = h.nodes + 1; links = h.links; source = source }) in
    refuse_if (nat_lt 0 h.links) (Byte p 0)
    (refuse_at (bad_node s p) p
    (refuse_if (not (number_of s p == p)) (Number p (number_of s p))
    (refuse_if (nat_le 256 p) (Number p (number_of s p))
    (if role_of s p == 0 then more h.source
    else refuse_if (is_some h.source) (SecondSource p) (more (Some p))))))

unfoldable pub link_of : List ℕ → Tally → Result Tally Fault
link_of s h =
    let p : ℕ = place_of h in
    refuse_at (bad_link s p) p
    (refuse_if (nat_le 1024 h.links) (TooManyLinks p)
    (refuse_if (nat_le h.nodes (one_end s p)) (End p (one_end s p))
    (refuse_if (nat_le h.nodes (other_end s p)) (End p (other_end s p))
    (refuse_if (one_end s p == other_end s p) (SelfLink p (one_end s p))
    (Ok (record { nodes = h.nodes; links = h.links + 1; source = h.source }))))))

unfoldable pub record_of : List ℕ → Tally → Result Tally Fault
record_of s h =
    if kind_of s (place_of h) == 1 then node_of s h
    else if kind_of s (place_of h) == 2 then link_of s h
    else Err (Byte (place_of h) 0)

unfoldable pub end_of : Tally → Result Shape Fault
end_of h =
    on_found h.source
    (λ source. Ok (record { nodes = h.nodes; links = h.links; source = source }))
    (Err (NoSource h.nodes))

abbrev pub onward : {A B : Type 0} → Result A Fault → (A → Result B Fault) → Result B Fault
onward (Ok h) k = k h
onward (Err e) k = Err e

unfoldable pub go_on : List ℕ → ℕ → Tally → Result Shape Fault
go_on s zero h = end_of h
go_on s (suc n) h = onward (record_of s h) (go_on s n)

abbrev pub start : Tally
start = record { nodes = 0; links = 0; source = None }

unfoldable pub read_of : List ℕ → Result Shape Fault
read_of s =
    refuse_if (length s == 0) (Length (length s))
    (refuse_if (not (length s % 8 == 0)) (Length (length s))
    (go_on s (length s / 8) start))
