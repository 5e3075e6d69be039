-- A child is under its cell exactly where its bytes go on from the cell's prefix.
use Rattle.std.proofs.Common.{◌≡◌, ℕ, zero, suc, ◌+◌, ◌*◌, ◌^◌, ◌<◌, ◌≤◌, cond, Bool, List, slice_index, inl, inr, sym, subst, ap, ap₂, ◌∙◌, arith, lt-ltb, le-ltb}
use Rattle.std.specs.Prelude.{◌↔◌, IsTrue}
use Rattle.std.proofs.lemmas.Bool.{cases_lt}
use Rattle.radix_nodes.specs.Keys.{key_bytes, key_byte_of, EndsAt}
use Rattle.tree_law.specs.Trees.{Reference, Tree, IsUnder, span, first_bytes, byte_at, low, depth_of}
use Rattle.tree_law.proofs.Spans.{first_next, fewer_alike, byte_small}
use Rattle.layer_map.specs.Keys.{key_number, IsKey}
use Rattle.tree_floor.proofs.KeyNumbers.{byte_is_of_number, number_below, none_first, byte_behind, prefix_is_of_number}
use Rattle.image_layer_rules.specs.Heads.{GoesOn, HasPrefix}

-- numbers whose first bytes are the same, one by one
first_alike : (a b depth : ℕ) → a < 256 ^ key_bytes → b < 256 ^ key_bytes → ((at : ℕ) → at < depth → byte_at at a ≡ byte_at at b) → depth ≤ key_bytes → first_bytes depth a ≡ first_bytes depth b
first_alike a b zero small small' same le = none_first a small ∙ sym (none_first b small')
first_alike a b (suc depth) small small' same le =
    ap (λ d. first_bytes d a) (let is : suc depth ≡ depth + 1 = omega arith in is) ∙ first_next depth a (omega arith)
    ∙ ap₂ (λ f b. 256 * f + b) (first_alike a b depth small small' (λ at lt. same at (omega arith)) (omega arith)) (same depth (omega arith))
    ∙ sym (ap (λ d. first_bytes d b) (let is : suc depth ≡ depth + 1 = omega arith in is) ∙ first_next depth b (omega arith))

module _ (prefix key : List ℕ) (is_prefix : IsKey prefix) (is_key : IsKey key) (depth byte : ℕ) (within : depth < key_bytes) (small : byte < 256) where
  byte_of_key : (at : ℕ) → at < key_bytes → key_byte_of (slice_index key) at ≡ byte_at at (key_number key)
  byte_of_key at lt = byte_is_of_number (slice_index key) at is_key.fits lt

  byte_of_prefix : (at : ℕ) → at < key_bytes → key_byte_of (slice_index prefix) at ≡ byte_at at (key_number prefix)
  byte_of_prefix at lt = byte_is_of_number (slice_index prefix) at is_prefix.fits lt

  goes_on_bytes : GoesOn (slice_index prefix) depth byte (slice_index key) → first_bytes (depth + 1) (key_number key) ≡ 256 * first_bytes depth (key_number prefix) + byte
  goes_on_bytes goes =
      first_next depth (key_number key) within
      ∙ ap₂ (λ f b. 256 * f + b)
      (first_alike (key_number key) (key_number prefix) depth (number_below (slice_index key) is_key.fits) (number_below (slice_index prefix) is_prefix.fits)
      (λ at lt. sym (byte_of_key at (omega arith)) ∙ goes.first at lt ∙ byte_of_prefix at (omega arith)) (omega arith))
      (sym (byte_of_key depth within) ∙ goes.next)

  bytes_go_on : first_bytes (depth + 1) (key_number key) ≡ 256 * first_bytes depth (key_number prefix) + byte → GoesOn (slice_index prefix) depth byte (slice_index key)
  bytes_go_on is =
      let f = first_bytes depth (key_number key) in
      let g = first_bytes depth (key_number prefix) in
      let b = byte_at depth (key_number key) in
      let next : first_bytes (depth + 1) (key_number key) ≡ 256 * f + b = first_next depth (key_number key) within in
      let less : b < 256 = byte_small depth (key_number key) in
      let same : f ≡ g = omega arith in
      let last : b ≡ byte = omega arith in
      record {
        first = λ at lt.
            let one : first_bytes at (key_number key) ≡ first_bytes at (key_number prefix) = fewer_alike at depth (key_number key) (key_number prefix) (omega arith) (omega arith) same in
            let more : first_bytes (at + 1) (key_number key) ≡ first_bytes (at + 1) (key_number prefix) = fewer_alike (at + 1) depth (key_number key) (key_number prefix) (omega arith) (omega arith) same in
            let left = first_next at (key_number key) (omega arith) in
            let right = first_next at (key_number prefix) (omega arith) in
            let alike : byte_at at (key_number key) ≡ byte_at at (key_number prefix) = omega arith in
            byte_of_key at (omega arith) ∙ alike ∙ sym (byte_of_prefix at (omega arith));
        next = byte_of_key depth within ∙ last;
      }

pub under_if : (t : Tree) (x byte depth : ℕ) (r : Reference) (prefix key : List ℕ) (result : Bool) → IsKey prefix → IsKey key → depth ≡ t.depth x → key_number prefix ≡ t.prefix x → key_number key ≡ low t r → depth < key_bytes → byte < 256 → depth < depth_of t r → IsTrue result ↔ GoesOn (slice_index prefix) depth byte (slice_index key) → IsTrue result ↔ IsUnder t x byte r
under_if t x byte depth r prefix key result is_prefix is_key depth_is prefix_is key_is within small deeper goes = (
  λ yes.
      let bytes = goes_on_bytes prefix key is_prefix is_key depth byte within small (goes.0 yes) in
      record {
        byte = small;
        bytes = ap (λ d. first_bytes (d + 1) (low t r)) (sym depth_is) ∙ ap (first_bytes (depth + 1)) (sym key_is) ∙ bytes ∙ ap₂ (λ d n. 256 * first_bytes d n + byte) depth_is prefix_is;
        deeper = subst (λ d. d < depth_of t r) depth_is deeper;
      },
  λ under.
      goes.1 (bytes_go_on prefix key is_prefix is_key depth byte within small
      (ap (first_bytes (depth + 1)) key_is ∙ ap (λ d. first_bytes (d + 1) (low t r)) depth_is ∙ under.bytes ∙ sym (ap₂ (λ d n. 256 * first_bytes d n + byte) depth_is prefix_is))),
)

-- a prefix has zeros from its depth on
pub zeros_if : (prefix : List ℕ) (depth : ℕ) → IsKey prefix → depth < key_bytes → EndsAt depth (slice_index prefix) ↔ (first_bytes depth (key_number prefix) * span depth ≡ key_number prefix)
zeros_if prefix depth is within = (
  λ ends. sym (prefix_is_of_number depth (slice_index prefix) (slice_index prefix) is.fits is.fits within (λ at lt. elim (cases_lt at depth) [
    | inl before ↦ sym (ap (λ t. cond t (key_byte_of (slice_index prefix) at) 0) (lt-ltb at depth before))
    | inr behind ↦ ends at behind lt ∙ sym (ap (λ t. cond t (key_byte_of (slice_index prefix) at) 0) (le-ltb at depth behind))
  ])),
  λ zeros at le lt. byte_is_of_number (slice_index prefix) at is.fits lt ∙ ap (byte_at at) (sym zeros) ∙ byte_behind depth (key_number prefix) within at le lt,
)

pub prefix_if : (t : Tree) (x depth : ℕ) (prefix : List ℕ) (result : Bool) → IsKey prefix → depth ≡ t.depth x → key_number prefix ≡ t.prefix x → t.depth x < key_bytes → IsTrue result ↔ EndsAt depth (slice_index prefix) → IsTrue result ↔ HasPrefix t x
prefix_if t x depth prefix result is depth_is prefix_is within ends =
    let zeros = zeros_if prefix depth is (subst (λ d. d < key_bytes) (sym depth_is) within) in (
      λ yes. subst (λ d. first_bytes d (t.prefix x) * span d ≡ t.prefix x) depth_is (subst (λ n. first_bytes depth n * span depth ≡ n) prefix_is (zeros.0 (ends.0 yes))),
      λ has. ends.1 (zeros.1 (subst (λ n. first_bytes depth n * span depth ≡ n) (sym prefix_is) (subst (λ d. first_bytes d (t.prefix x) * span d ≡ t.prefix x) (sym depth_is) has))),
    )
