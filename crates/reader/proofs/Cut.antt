-- No table has more than 256 + 1,024 records, and the reader stops at the first fault, so more than
-- the first 1,281 records of a table are never needed.
--     reading_cut     a table of more than 10,240 bytes is refused as its first 10,248 bytes are
-- Assumes nothing.
use Rattle.std.proofs.Common.{◌≡◌, refl, sym, ◌∙◌, List, ℕ, zero, suc, ◌+◌, ◌*◌, ◌-◌, ◌/◌, ◌%◌, ◌≤◌, ◌<◌, suc-add, arith, length, take, get_or, get_or-take, length-take-le}
use Rattle.std.specs.Prelude.{Result, Ok, Err}
use Rattle.std.proofs.lemmas.Bool.Decides.{nat_tests}
use Rattle.records.specs.Bytes.{two_of, kind_of, bad_tail, bad_node, bad_link}
use Rattle.records.proofs.Bytes.{two_at}
use Rattle.reader.specs.declared.Tally.{Tally}
use Rattle.reader.specs.declared.Fault.{Fault}
use Rattle.reader.specs.Table.{place_of, refuse_if, node_of, link_of, record_of, onward, go_on}
use Rattle.reader.specs.Table.{start, read_of}
use Rattle.reader.proofs.Passed.{next_place}
use Rattle.reader.proofs.Sound.{Sound, sound_start, sound_record}

module _ (s : List ℕ) (n : ℕ) where
  module _ (r : ℕ) (b : r < n) where
    byte_cut : (k : ℕ) → k < 8 → get_or (take (8 * n) s) (8 * r + k) 0 ≡ get_or s (8 * r + k) 0
    byte_cut k l = get_or-take (8 * n) s (8 * r + k) 0 (omega arith)

    kind_cut : kind_of (take (8 * n) s) r ≡ kind_of s r
    kind_cut = get_or-take (8 * n) s (8 * r) 0 (omega arith)

    two_cut : (k : ℕ) → k < 7 → two_of (take (8 * n) s) (8 * r + k) ≡ two_of s (8 * r + k)
    two_cut k l =
        two_at _ s (8 * r + k) (8 * r + k) (byte_cut k (omega arith))
        (get_or-take (8 * n) s (8 * r + k + 1) 0 (omega arith))

    tail_cut : bad_tail (take (8 * n) s) r ≡ bad_tail s r
    unfolding bad_tail
    tail_cut = rw (byte_cut 6 (omega arith), byte_cut 7 (omega arith))

    bad_node_cut : bad_node (take (8 * n) s) r ≡ bad_node s r
    unfolding bad_node
    bad_node_cut =
        rw (byte_cut 1 (omega arith), byte_cut 4 (omega arith), byte_cut 5 (omega arith), tail_cut)

    bad_link_cut : bad_link (take (8 * n) s) r ≡ bad_link s r
    unfolding bad_link
    bad_link_cut = rw (byte_cut 1 (omega arith), tail_cut)

  module _ (h : Tally) (b : place_of h < n) where
    node_cut : node_of (take (8 * n) s) h ≡ node_of s h
    unfolding node_of
    node_cut =
        rw (
          bad_node_cut (place_of h) b,
          two_cut (place_of h) b 2 (omega arith),
          byte_cut (place_of h) b 1 (omega arith),
        )

    link_cut : link_of (take (8 * n) s) h ≡ link_of s h
    unfolding link_of
    link_cut =
        rw (
          bad_link_cut (place_of h) b,
          two_cut (place_of h) b 2 (omega arith),
          two_cut (place_of h) b 4 (omega arith),
        )

    record_cut : record_of (take (8 * n) s) h ≡ record_of s h
    unfolding record_of
    record_cut = rw (kind_cut (place_of h) b, node_cut, link_cut)

  -- One record, and what the rest gives from each tally.
  next : (j more : ℕ) (h : Tally) → Sound s h → ((f : Tally) → Sound s f
      → place_of f ≡ place_of h + 1 → go_on (take (8 * n) s) j f ≡ go_on s (j + more) f)
      → (r : Result Tally Fault) → record_of s h ≡ r
      → onward r (go_on (take (8 * n) s) j) ≡ onward r (go_on s (j + more))
  next j more h k rest (Ok f) q = rest f (sound_record s h f k q) (next_place s h f q)
  next j more h k rest (Err a) q = refl

  go_cut : 1280 < n → (j more : ℕ) (h : Tally) → Sound s h → place_of h + j ≡ n
      → go_on (take (8 * n) s) j h ≡ go_on s (j + more) h
  unfolding go_on
  go_cut big zero more h k e = absurd (omega arith)
  go_cut big (suc j) more h k e =
      rw (suc-add, record_cut h (omega arith))
      (next j more h k (λ f kf p. go_cut big j more f kf (omega arith)) (record_of s h) refl)

-- A table of n whole records is read by going on n times.
read_whole : (s : List ℕ) (n : ℕ) → length s ≡ 8 * n → 0 < n → read_of s ≡ go_on s n start
unfolding read_of refuse_if
read_whole s n long some =
    let whole : length s % 8 ≡ 0 = omega arith in
    let count : length s / 8 ≡ n = omega arith in
    grind (arith, nat_tests)

read_cut : (s : List ℕ) (n : ℕ) → 1280 < n → 8 * n ≤ length s → length s % 8 ≡ 0
    → read_of (take (8 * n) s) ≡ read_of s
read_cut s n big room whole =
    let more = length s / 8 - n in
    let all : length s ≡ 8 * (n + more) = omega arith in
    read_whole (take (8 * n) s) n (length-take-le (8 * n) s room) (omega arith)
    ∙ go_cut s n big n more start (sound_start s) (omega arith)
    ∙ sym (read_whole s (n + more) all (omega arith))

pub reading_cut : (s : List ℕ) → length s % 8 ≡ 0 → 10240 < length s
    → read_of (take 10248 s) ≡ read_of s
reading_cut s whole big = read_cut s 1281 (omega arith) (omega arith) whole
