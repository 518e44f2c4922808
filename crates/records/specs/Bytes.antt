-- What the bytes of a table hold. A record is 8 bytes; record r starts at byte 8 r.
--     two_of s i       the two-byte number at byte i, low byte first
--     kind_of s r      byte 0 of record r: 1 node, 2 link, 3 plan
--     code_of kind     the byte 0 of a kind of table's record
--     Decodes b o      o is the kind of a table's record that byte 0 stands for, or an error with b
--     role_of s r      byte 1 of a node record: 1 if source, else 0
--     number_of s r    the number of a node record
--     one_end s r      one end of a link record; other_end: the other
--     above k m        the offset k, where the byte there is above m
--     bad_tail s r     the offset of the lower of the last two bytes that is not 0
--     bad_node s r     the offset of the lowest byte of a node record behind its kind that is
--                      neither a role nor a zero filler
--     bad_link s r     the same of a link record
-- Assumes nothing.
use Rattle.std.specs.Prelude.{◌≡◌, ◌≢◌, List, ℕ, ◌+◌, ◌*◌, Option, Some, Result, MatchResult, nat_lt, slice_index}
use Rattle.std.specs.Option.{option_or}
use Rattle.network.specs.Search.{when}
use Rattle.records.specs.declared.Kind.{Kind}
use Rattle.records.specs.declared.Kind.TheVariants.{Node, Link}
use Rattle.records.specs.declared.UnknownKind.{UnknownKind}

unfoldable pub two_of : List ℕ → ℕ → ℕ
two_of s i = slice_index s i + 256 * slice_index s (i + 1)

abbrev pub code_of : Kind → ℕ
code_of Node = 1
code_of Link = 2

abbrev pub Decodes : ℕ → Result Kind UnknownKind → Type 0
Decodes b o = MatchResult o (λ kind. b ≡ code_of kind) (λ e. (e.0 ≡ b) × (b ≢ 1) × (b ≢ 2))

module _ (s : List ℕ) (r : ℕ) where
  abbrev pub kind_of : ℕ
  kind_of = slice_index s (8 * r)

  abbrev pub role_of : ℕ
  role_of = slice_index s (8 * r + 1)

  abbrev pub number_of : ℕ
  number_of = two_of s (8 * r + 2)

  abbrev pub one_end : ℕ
  one_end = two_of s (8 * r + 2)

  abbrev pub other_end : ℕ
  other_end = two_of s (8 * r + 4)

  abbrev pub above : (k m : ℕ) → Option ℕ
  above k m = when (nat_lt m (slice_index s (8 * r + k))) (Some k)

  unfoldable pub bad_tail : Option ℕ
  bad_tail = option_or (above 6 0) (above 7 0)

  unfoldable pub bad_node : Option ℕ
  bad_node = option_or (option_or (option_or (above 1 1) (above 4 0)) (above 5 0)) bad_tail

  unfoldable pub bad_link : Option ℕ
  bad_link = option_or (above 1 0) bad_tail
