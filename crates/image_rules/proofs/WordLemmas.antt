-- The words of an image by name: which have no use, and which are those of a node.
use Rattle.std.proofs.Common.{◌≡◌, ◌≢◌, ℕ, ◌-◌, ◌^◌, ◌<◌, ◌≤◌, true, false, cond, List, slice_index, inl, inr, refl, sym, ap, subst, ◌∙◌, arith}
use Rattle.std.specs.Prelude.{◌&&◌, nat_lt}
use Rattle.std.proofs.lemmas.Bool.{cases_lt, lt-ltb, le-ltb}
use Rattle.pm_words.specs.declared.layout.Layout.{Layout}
use Rattle.pm_words.specs.Locations.{Word, Header, Root, Node, Line, Leaf, Cell, node_words, word_number, word_at}
use Rattle.image_rules.specs.Lowest.{IsNumberOf}
use Rattle.image_rules.specs.Nodes.{image_spot}
use Rattle.image_rules.specs.Laws.{CrashKeepsSpot, StartCachesSpot}
use Rattle.pm_words.specs.Rows.{durable_row}
use Rattle.pm_words.proofs.Made.{durable_row-at, row_of-at}
use Rattle.image_rules.specs.Rules.{IsSpare}

-- A spare word that isn't 0.
abbrev pub IsUsedSpare : Layout → List ℕ → Word → Type 0
IsUsedSpare l image w = IsSpare w × (word_at l image w ≢ 0)

-- The same by the word's number.
pub record IsUsedNumber (image : List ℕ) (number : ℕ) : Type 0 where
  pub least : 6 ≤ number
  pub below : number < 16
  pub other : number ≢ 8
  pub used : slice_index image number ≢ 0

used_word : (l : Layout) (image : List ℕ) (w : Word) → IsUsedSpare l image w → IsUsedNumber image (word_number l w)
used_word l image (Header o) used = record { least = omega (arith, used.0.0); below = omega (arith, used.0.1); other = omega (arith, used.0.1); used = used.1 }
used_word l image (Root o) used = record { least = omega (arith, used.0.0); below = omega (arith, used.0.1); other = omega (arith, used.0.0); used = used.1 }
used_word l image (Node n o) used = absurd used.0
used_word l image (Line c j o) used = absurd used.0
used_word l image (Leaf k o) used = absurd used.0
used_word l image (Cell kind k o) used = absurd used.0

pub used_number : (l : Layout) (image : List ℕ) (number : ℕ) → IsNumberOf l (IsUsedSpare l image) number → IsUsedNumber image number
used_number l image number is = subst (IsUsedNumber image) is.numbered (used_word l image is.word is.holds)

pub number_used : (l : Layout) (image : List ℕ) (number : ℕ) → IsUsedNumber image number → IsNumberOf l (IsUsedSpare l image) number
number_used l image number is =
    elim (cases_lt number 8) [
      | inl in_header ↦
          let here : word_number l (Header number) ≡ number = omega arith in
          record { word = Header number; numbered = here; holds = ((is.least, in_header), subst (λ n. slice_index image n ≢ 0) (sym here) is.used) }
      | inr in_root ↦
          let here : word_number l (Root (number - 8)) ≡ number = omega arith in
          let least : 1 ≤ number - 8 = omega (arith, is.other) in
          let below : number - 8 < 8 = omega (arith, is.below) in
          record { word = Root (number - 8); numbered = here; holds = ((least, below), subst (λ n. slice_index image n ≢ 0) (sym here) is.used) }
    ]

-- a word of a node stands in the image where its name says
pub image_spot-here : (l : Layout) (image : List ℕ) (n offset : ℕ) → n < l.nodes → 0 < offset → offset < node_words l →
    image_spot l image n offset ≡ word_at l image (Node n offset)
unfolding image_spot
image_spot-here l image n offset here behind within = rw (lt-ltb n l.nodes here, lt-ltb 0 offset behind, lt-ltb offset (node_words l) within) refl

-- a node that the image doesn't have is all zeros
pub image_spot-outside : (l : Layout) (image : List ℕ) (n offset : ℕ) → l.nodes ≤ n → image_spot l image n offset ≡ 0
unfolding image_spot
image_spot-outside l image n offset out = rw (le-ltb n l.nodes out) refl

-- each word of a node has as many bits as those of the image
pub image_spot-fits : (l : Layout) (image : List ℕ) (n offset : ℕ) → ((k : ℕ) → slice_index image k < 2 ^ 64) → image_spot l image n offset < 2 ^ 64
unfolding image_spot
image_spot-fits l image n offset fits =
    elim (nat_lt n l.nodes && (nat_lt 0 offset && nat_lt offset (node_words l))) as (λ b. cond b (word_at l image (Node n offset)) 0 < 2 ^ 64) [
      | true ↦ fits (word_number l (Node n offset))
      | false ↦ omega arith
    ]

-- the number of a word of a node, by the layout that the image tells
pub node_number : (l m : Layout) (n offset number : ℕ) → m ≡ l → number ≡ word_number m (Node n offset) → number ≡ word_number l (Node n offset)
node_number l m n offset number told is = is ∙ ap (λ (k : Layout). word_number k (Node n offset)) told

-- what was durable is in the image
pub crash_keeps_spot : CrashKeepsSpot
crash_keeps_spot l words n offset here behind within = image_spot-here l (durable_row l words) n offset here behind within ∙ durable_row-at l words (Node n offset)

-- and what is in the image is cached
pub start_caches_spot : StartCachesSpot
start_caches_spot l image n offset is here behind within =
    (row_of-at l image (Node n offset) is (here, within)).0 ∙ sym (image_spot-here l image n offset here behind within)
