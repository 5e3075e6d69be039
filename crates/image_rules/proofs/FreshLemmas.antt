-- A fresh image is sound, and keeps no name.
use Rattle.std.proofs.Common.{◌≡◌, ℕ, ◌+◌, suc, refl, ◌/◌, ◌%◌, ◌<◌, ◌≤◌, List, [], ◌∷◌, Some, None, inl, inr, sym, subst, ◌∙◌, arith}
use Rattle.std.specs.FinMap.{empty, get-empty}
use Rattle.std.proofs.lemmas.Bool.{cases_eq}
use Rattle.cat_key.specs.Names.{name_cmp}
use Rattle.data_node.specs.Spots.{Means}
use Rattle.data_node.proofs.SpotLemmas.{means_empty}
use Rattle.pm_words.specs.declared.layout.Layout.{Layout}
use Rattle.pm_words.specs.Images.{fresh_words, fresh_word}
use Rattle.pm_words.specs.Layouts.{IsLayout}
use Rattle.pm_words.specs.Locations.{Word, Header, Root, Node, Line, Leaf, Cell, word_at}
use Rattle.pm_words.proofs.Made.{fresh_at, fresh_image}
use Rattle.version_lock.specs.Versions.{generation_of}
use Rattle.data_node.specs.Lists.{ListNode, IsIn, MakeList}
use Rattle.data_node.proofs.ListLemmas.{chain_is}
use Rattle.data_node.proofs.KeyLemmas.{anchor_zero}
use Rattle.pm_words.specs.Offsets.{version_offset, bitmap_offset, next_offset, anchor_offset, state_offset}
use Rattle.pm_words.specs.Offsets.{generation_offset}
use Rattle.image_rules.specs.Nodes.{image_spot, image_list, IsListedNode, image_range}
use Rattle.image_rules.specs.Rules.{IsSpare, header_generation}
use Rattle.version_lock.specs.Versions.{IsGeneration}
use Rattle.image_rules.specs.Laws.{KeepsRules, FreshIsSound}
use Rattle.image_rules.proofs.WordLemmas.{image_spot-here}
use Rattle.image_rules.proofs.TidyLemmas.{keeps_sound}

-- the root's line has no word but the first
behind_root : (l : Layout) (o : ℕ) → 1 ≤ o → fresh_word l (Root o) ≡ 0
behind_root l (suc o) some = refl
behind_root l o some = absurd (omega arith)

fresh_spare : (l : Layout) (w : Word) → IsSpare w → word_at l (fresh_words l) w ≡ 0
fresh_spare l (Header o) spare =
    elim (cases_eq o 6) as (λ _. word_at l (fresh_words l) (Header o) ≡ 0) [
      | inl six ↦ subst (λ k. word_at l (fresh_words l) (Header k) ≡ 0) (sym six) (fresh_at l (Header 6) (omega arith))
      | inr other ↦
          let seven : o ≡ 7 = omega (arith, spare.0, spare.1) in
          subst (λ k. word_at l (fresh_words l) (Header k) ≡ 0) (sym seven) (fresh_at l (Header 7) (omega arith))
    ]
fresh_spare l (Root o) spare = fresh_at l (Root o) spare.1 ∙ behind_root l o spare.0
fresh_spare l (Node n o) spare = absurd spare
fresh_spare l (Line c j o) spare = absurd spare
fresh_spare l (Leaf k o) spare = absurd spare
fresh_spare l (Cell kind k o) spare = absurd spare

-- its list is node 0 alone
fresh_zero : (l : Layout) (n offset : ℕ) → n < l.nodes → 0 < offset → offset < 16 → image_spot l (fresh_words l) n offset ≡ 0
fresh_zero l n offset here behind within = image_spot-here l (fresh_words l) n offset here behind (omega arith) ∙ fresh_at l (Node n offset) (here, omega arith)

fresh_list : (l : Layout) → IsLayout l → image_list l (fresh_words l) ≡ []
fresh_list l is =
    let nodes = is.nodes in
    chain_is (image_spot l (fresh_words l)) l.nodes 0 [] (fresh_zero l 0 next_offset (omega arith) (omega arith) (omega arith)) (omega arith)

fresh_makes : (l : Layout) → IsLayout l → MakeList l.nodes (image_spot l (fresh_words l)) []
fresh_makes l is =
    let nodes = is.nodes in
    let some : 0 < l.nodes = omega arith in
    record {
      chain = fresh_zero l 0 next_offset some (omega arith) (omega arith);
      lowest = anchor_zero (image_spot l (fresh_words l) 0)
          (λ i. fresh_zero l 0 anchor_offset some (omega arith) (omega arith) i ∷ fresh_zero l 0 (anchor_offset + 1) some (omega arith) (omega arith) i ∷ fresh_zero l 0 (anchor_offset + 2) some (omega arith) (omega arith) i ∷ []);
      rise = tt;
      within = tt;
      named = tt;
    }

fresh_means : (l : Layout) → IsLayout l → (n : ℕ) → IsListedNode l (fresh_words l) n → Means l.slots (image_range l (fresh_words l) n) (image_spot l (fresh_words l) n) empty
fresh_means l is n listed =
    let nodes = is.nodes in
    let first : n ≡ 0 = elim (subst (λ (list : List ListNode). IsIn list n) (fresh_list l is) listed) as (λ _. n ≡ 0) [ inl zero ↦ zero | inr none ↦ absurd none ] in
    means_empty l.slots (image_range l (fresh_words l) n) (image_spot l (fresh_words l) n) (fresh_zero l n bitmap_offset (omega arith) (omega arith) (omega arith))

fresh_keeps : (l : Layout) → IsLayout l → KeepsRules l (fresh_words l)
fresh_keeps l is =
    let first : header_generation l (fresh_words l) ≡ 1 = fresh_at l (Header generation_offset) (omega arith) in
    record {
      generation = subst IsGeneration (sym first) (record { least = omega arith; fits = omega arith });
      spare = fresh_spare l;
      versions = λ n here. subst (λ (v : ℕ). generation_of v ≤ header_generation l (fresh_words l)) (sym (fresh_at l (Node n version_offset) (here, omega arith))) (omega arith);
      list = subst (MakeList l.nodes (image_spot l (fresh_words l))) (sym (fresh_list l is)) (fresh_makes l is);
      tidy = λ n listed. (fresh_means l is n listed).tidy;
      lines = λ line here. inl (fresh_at l (Line (line / 8) (line % 8) state_offset) (omega arith, omega arith, omega arith));
    }

pub fresh_is_sound : FreshIsSound
fresh_is_sound l is = (
  keeps_sound l (fresh_words l) (fresh_image l is) (fresh_keeps l is),
  record {
    means = fresh_means l is;
    names = λ name value has. absurd (let none : None ≡ Some value = sym (get-empty name_cmp name) ∙ has in cc);
  },
)
