-- Walks along the list of an image, that look for the first position at which something holds.
use Rattle.std.proofs.Common.{◌≡◌, ◌≢◌, ℕ, suc, ◌+◌, ◌<◌, ◌≤◌, List, Some, None, inl, inr, refl, sym, ap, ◌∙◌, subst, arith}
use Rattle.std.proofs.lemmas.Bool.{cases_lt}
use Rattle.pm_words.specs.declared.layout.Layout.{Layout}
use Rattle.pm_words.specs.Locations.{Word, word_number}
use Rattle.data_node.proofs.PositionLemmas.{position_one, position_next, position_bound, position_end}
use Rattle.image_rules.specs.Lowest.{IsLowest, IsNumberOf, IsFirst}
use Rattle.image_rules.specs.Nodes.{image_spot, image_list, IsListedAt, LeadWithin, next_in}

-- P holds at no position before this one.
abbrev pub NoneBefore : (ℕ → Word → Type 0) → ℕ → Type 0
NoneBefore P position = (before : ℕ) (w : Word) → before < position → ¬ P before w

pub none_more : (P : ℕ → Word → Type 0) (position : ℕ) → NoneBefore P position → ((w : Word) → ¬ P position w) → NoneBefore P (position + 1)
none_more P position none here before w below holds = elim (cases_lt before position) as (λ _. ⊥) [
  | inl passed ↦ none before w passed holds
  | inr reached ↦ let same : before ≡ position = omega arith in here w (subst (λ k. P k w) same holds)
]

-- P holds at positions of the list alone.
pub record IsOfList (l : Layout) (image : List ℕ) (P : ℕ → Word → Type 0) : Type 0 where
  pub listed : (position : ℕ) (w : Word) → P position w → (n : ℕ) × IsListedAt l image position n

-- A walk came to this node at this position, if the list has so many, and P holds at no position before.
pub record Walks (l : Layout) (image : List ℕ) (P : ℕ → Word → Type 0) (position node : ℕ) : Type 0 where
  pub at : position ≤ l.nodes → IsListedAt l image position node
  pub here : node < l.nodes
  pub none : NoneBefore P position

pub walk_begins : (l : Layout) (image : List ℕ) (P : ℕ → Word → Type 0) → 0 < l.nodes → Walks l image P 0 0
walk_begins l image P some = record { at = λ _. refl; here = some; none = λ before w below holds. omega (arith, below) }

-- it goes on to the next node
pub walk_on : {l : Layout} {image : List ℕ} {P : ℕ → Word → Type 0} {position node : ℕ} (next : ℕ) → Walks l image P position node → position ≤ l.nodes → next ≡ next_in l image node → next ≢ 0
    → next < l.nodes → ((w : Word) → ¬ P position w) → Walks l image P (position + 1) next
walk_on {l} {image} {P} {position} {node} next walks within is leads inside none = record {
  at = λ below.
      let there = position_next (image_spot l image) l.nodes 0 position node (walks.at within) (omega arith) (λ zero. leads (is ∙ zero)) in
      let one : suc position ≡ position + 1 = omega arith in
      subst (λ k. IsListedAt l image k next) one (subst (IsListedAt l image (suc position)) (sym is) there);
  here = inside;
  none = none_more P position walks.none none;
}

-- which is one of the image's, where its nodes lead to no others
pub walk_inside : {l : Layout} {image : List ℕ} {P : ℕ → Word → Type 0} {position node : ℕ} (next : ℕ) → LeadWithin l image → Walks l image P position node → position ≤ l.nodes
    → next ≡ next_in l image node → next ≢ 0 → next < l.nodes
walk_inside {l} {image} {P} {position} {node} next lead walks within is leads = subst (λ n. n < l.nodes) (sym is) (lead position node (walks.at within) (λ zero. leads (is ∙ zero)))

-- it found P, or has come to the end of the list, or past the longest
pub walk_found : {l : Layout} {image : List ℕ} {P : ℕ → Word → Type 0} {position node : ℕ} (number : ℕ) → Walks l image P position node → IsLowest (IsNumberOf l (P position)) (Some number)
    → IsFirst l P (Some number)
walk_found {l} {image} {P} {position} number walks lowest = (position, record { none_before = walks.none; lowest = lowest })

pub walk_ends : {l : Layout} {image : List ℕ} {P : ℕ → Word → Type 0} {position node : ℕ} → IsOfList l image P → Walks l image P position node → position ≤ l.nodes → next_in l image node ≡ 0
    → ((w : Word) → ¬ P position w) → IsFirst l P None
walk_ends {l} {image} {P} {position} {node} of walks within ends none other w holds = elim (cases_lt other (position + 1)) as (λ _. ⊥) [
  | inl passed ↦ none_more P position walks.none none other w passed holds
  | inr later ↦ let there = of.listed other w holds in position_end (image_spot l image) l.nodes 0 position node (walks.at within) ends other there.0 (omega arith) there.1
]

pub walk_full : {l : Layout} {image : List ℕ} {P : ℕ → Word → Type 0} {count node : ℕ} → IsOfList l image P → l.nodes < count → Walks l image P count node → IsFirst l P None
walk_full {l} {image} {P} {count} of more walks other w holds = elim (cases_lt other count) as (λ _. ⊥) [
  | inl passed ↦ walks.none other w passed holds
  | inr later ↦
      let there = of.listed other w holds in
      let bound = position_bound (image_spot l image) l.nodes 0 other there.0 there.1 in
      omega arith
]

-- at a position where P holds at one word alone, that is the lowest
pub one_word : (l : Layout) (P : Word → Type 0) (word : Word) (number : ℕ) → number ≡ word_number l word → P word → ((w : Word) → P w → w ≡ word)
    → IsLowest (IsNumberOf l P) (Some number)
one_word l P word number is holds one = (
  record { word = word; numbered = sym is; holds = holds },
  λ lower below at.
      let same : lower ≡ word_number l word = sym at.numbered ∙ ap (word_number l) (one at.word at.holds) in
      omega (arith, is),
)

-- as the next word of the node at a position is
pub same_node : (l : Layout) (image : List ℕ) (position n m : ℕ) → IsListedAt l image position n → IsListedAt l image position m → n ≡ m
same_node l image position n m = position_one 0 (image_list l image) position n m
