-- What the bytes of a plan hold: one record a node, in order.
--     size_of kind            how many bytes a record of a plan has, by its kind
--     offset_of c             where the parent link in colour c stands in a record
--     entry_of kind s v c     the parent link of node v in colour c
--     bad_plan kind s v       the lowest of the offsets 0, 1 and 2 of v's record at which its kind,
--                             its byte 1 or its node number is wrong
--     record_of kind v b r    the bytes of v's record with the parent links b and r
--     plan_bytes kind n tree  the bytes of a plan for n nodes
-- Assumes nothing.
use Rattle.std.specs.Prelude.{not, List, [], ◌∷◌, ◌++◌, ℕ, zero, suc, ◌+◌, ◌*◌, ◌/◌, ◌%◌, Option, Some, None, ◌==◌, slice_index, if◌then◌else◌}
use Rattle.network.specs.declared.Colour.{Colour}
use Rattle.network.specs.declared.Colour.TheVariants.{Blue, Red}
use Rattle.network.specs.Chain.{Trees}
use Rattle.records.specs.Bytes.{two_of}

abbrev pub size_of : ℕ → ℕ
size_of kind = 8

-- Where an entry stands in a record.
abbrev pub offset_of : Colour → ℕ
offset_of Blue = 4
offset_of Red = 6

unfoldable pub entry_of : ℕ → List ℕ → ℕ → Colour → ℕ
entry_of kind s v colour = two_of s (size_of kind * v + offset_of colour)

unfoldable pub bad_plan : ℕ → List ℕ → ℕ → Option ℕ
bad_plan kind s v =
    let at = size_of kind * v in
    if not (slice_index s at == kind) then Some 0
    else if not (slice_index s (at + 1) == 0) then Some 1
    else if not (two_of s (at + 2) == v) then Some 2 else None

unfoldable pub record_of : (kind v b r : ℕ) → List ℕ
record_of kind v b r =
    kind ∷ 0 ∷ v % 256 ∷ v / 256 ∷ b % 256 ∷ b / 256 ∷ r % 256 ∷ r / 256 ∷ []

unfoldable pub plan_bytes : (kind n : ℕ) → Trees → List ℕ
plan_bytes kind zero tree = []
plan_bytes kind (suc n) tree = plan_bytes kind n tree ++ record_of kind n (tree Blue n) (tree Red n)
