-- What a merge makes of the words of both nodes is in order.
use Rattle.std.proofs.Common.{ℕ, ◌+◌, ◌^◌, ◌<◌, List, slice_index, slice_set, inl, inr, refl, sym, subst, ◌∙◌, arith}
use Rattle.std.proofs.lemmas.Bool.{cases_eq}
use Rattle.std.proofs.lemmas.List.{length-set, get_or-set_same, get_or-set_other}
use Rattle.pm_words.specs.Offsets.{anchor_offset}
use Rattle.split_merge.specs.declared.merging.Merge.{Merge}
use Rattle.split_merge.specs.declared.merging.Near.{Near}
use Rattle.split_merge.specs.Unions.{IsUnion}
use Rattle.split_merge.specs.Merges.{AreWordsOf, AreHeld, union_of}
use Rattle.split_merge.proofs.PlanWords.{anchor_is}

-- one word more of a row
pub words_set : (most : ℕ) (words : List ℕ) (k word : ℕ) → AreWordsOf most words → k < most → word < 2 ^ 64 → AreWordsOf most (slice_set words k word)
words_set most words k word are within fits = record {
  size = length-set words k word ∙ are.size;
  fits = λ offset. elim (cases_eq offset k) [
    | inl same ↦ let value = get_or-set_same words k word 0 (let size = are.size in omega arith) in subst (λ o. slice_index (slice_set words k word) o < 2 ^ 64) (sym same) (omega (arith, value))
    | inr other ↦ let value = get_or-set_other words k offset word 0 other in let was = are.fits offset in omega (arith, value, was)
  ];
}

pub union_made : (merge : Merge) (near : Near) (locked : ℕ) (head prints : List ℕ) (count : ℕ) (others : List ℕ) → AreHeld merge near locked head prints count → AreWordsOf 4 others
    → IsUnion (union_of merge near locked head others)
union_made merge near locked head prints count others held are =
    let words = held.heads.words in
    let anchor = anchor_is (slice_index head anchor_offset) (slice_index head (anchor_offset + 1)) (slice_index head (anchor_offset + 2)) (words.fits anchor_offset) (words.fits (anchor_offset + 1)) (words.fits (anchor_offset + 2)) in
    let named = anchor.named in
    let some = held.beside.some in
    record {
      layout = held.view.layout;
      node = held.node;
      right = held.beside.leads.right;
      lock = held.word;
      right_lock = held.beside.lock;
      line = held.line.1;
      own = held.beside.leads.own;
      prints_size = are.size;
      prints = are.fits;
      head_size = words.size;
      head = words.fits;
      behind = held.heads.behind;
      entry = record {
        kind = inr refl;
        node = (omega arith, held.beside.leads.right);
        name = named.0;
        is_name = named.1;
        anchor = sym named.2;
        left = held.node;
      };
      few = held.heads.few (omega arith);
      pairs = refl;
    }
