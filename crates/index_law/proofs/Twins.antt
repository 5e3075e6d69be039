-- Words that become durable: each durable twin stays, or is its cached twin from then on.
use Rattle.std.proofs.Common.{◌≡◌, ℕ, ◌<◌, ◌≤◌, ◌⊎◌, inl, inr, ⊎_elim, true, false, cond, List, length, slice_index, slice_set, refl, sym, ◌∙◌, subst, arith}
use Rattle.std.proofs.lemmas.Bool.{cases_eq}
use Rattle.std.proofs.lemmas.List.{get_or-set_same, get_or-set_other}
use Rattle.pm_words.specs.declared.layout.Layout.{Layout}
use Rattle.pm_words.specs.declared.action.Action.TheVariants.{Drain}
use Rattle.pm_words.specs.Locations.{Word, Header, Root, Node, Line, Leaf, Cell, Location, Cached, Durable, HasWord, HasLocation, at, address_of, word_number, image_words, row_words, cached_address, durable_address}
use Rattle.pm_words.specs.Rows.{acted, evicted}
use Rattle.pm_words.proofs.Apart.{words_within, at-set_other}
use Rattle.pm_words.proofs.Kept.{action_address-drain}
use Rattle.version_lock.specs.Versions.{generation_of}
use Rattle.cat_history.specs.Maps.{Map}
use Rattle.cat_history.specs.declared.op.Write.{Write}
use Rattle.data_node.specs.Spots.{Spot}
use Rattle.pm_words.specs.Offsets.{generation_offset, reference_offset, version_offset, next_offset}
use Rattle.call_stages.specs.Stages.{Held, Grip, Phase, Filling, Linked, Parted, Pace, Gathered, Joined, Gone, Stage, Idle, Saw, Wears, Reads, Holds, Eyes, Splits, Leaves, Meets, Joins}
use Rattle.call_stages.specs.Kinds.{HasWordAt, word_address}
use Rattle.index_law.specs.Facts.{Facts, facts_of, spot_in, durable_spot}
use Rattle.index_law.specs.Lawful.{AreKnown}
use Rattle.index_law.specs.Twins.{IsBlank, IsBacked, IsBackedLeft, IsBackedFresh, IsBackedJoin, BacksStage, AreDurable, AreDurablyKnown, IsFront}
use Rattle.index_law.proofs.Rows.{in_spot, in_spot-true, version_in-here}

-- the durable words of another row are those of this one, or its cached ones
abbrev pub IsCloser : Layout → List ℕ → List ℕ → Type 0
IsCloser l words words' = (w : Word) → HasWord l w → (at l words' (Durable w) ≡ at l words (Durable w)) ⊎ (at l words' (Durable w) ≡ at l words (Cached w))

-- so are those but of log lines and of the search layer
abbrev pub IsAside : Word → Type 0
IsAside (Root offset) = (offset ≡ reference_offset)
IsAside (Line c j offset) = Unit {0}
IsAside (Leaf k offset) = Unit {0}
IsAside (Cell kind k offset) = Unit {0}
IsAside _ = ⊥

abbrev pub IsNearer : Layout → List ℕ → List ℕ → Type 0
IsNearer l words words' = (w : Word) → HasWord l w → (IsAside w → ⊥) →
    (at l words' (Durable w) ≡ at l words (Durable w)) ⊎ (at l words' (Durable w) ≡ at l words (Cached w))

pub nearer : (l : Layout) (words words' : List ℕ) → IsCloser l words words' → IsNearer l words words'
nearer l words words' closer w has other = closer w has

-- so are they once a word is copied
pub evict_closer : (l : Layout) (words : List ℕ) (word : ℕ) → length words ≡ row_words l → word < image_words l → IsCloser l words (evicted l words word)
evict_closer l words word whole within w has =
    let x : ℕ = slice_index words (cached_address l word) in
    ⊎_elim
    (λ (same : word_number l w ≡ word). inr (subst (λ (k : ℕ). slice_index (slice_set words (durable_address l word) x) (durable_address l k) ≡ slice_index words (cached_address l k)) (sym same)
    (get_or-set_same words (durable_address l word) x 0 (omega arith))))
    (λ (other : word_number l w ≡ word → ⊥). inl (get_or-set_other words (durable_address l word) (address_of l (Durable w)) x 0 (λ e. other (omega arith))))
    (cases_eq (word_number l w) word)

-- while the cached words stay
pub evict_cached : (l : Layout) (words : List ℕ) (word : ℕ) (w : Word) → HasWord l w → at l (evicted l words word) (Cached w) ≡ at l words (Cached w)
evict_cached l words word w has =
    let x : ℕ = slice_index words (cached_address l word) in
    let within = words_within l w has in
    get_or-set_other words (durable_address l word) (address_of l (Cached w)) x 0 (λ e. absurd (omega arith))

-- a drain of a word that gives its cached twin copies it
pub drain_evicts : (l : Layout) (words : List ℕ) (n offset y : ℕ) → y ≡ slice_index words (word_address l n offset)
    → acted l words (Drain (word_address l n offset) y) ≡ evicted l words (word_number l (Node n offset))
drain_evicts l words n offset y is = λ k. slice_set words (action_address-drain l (Node n offset) y k) (is k)

-- a store elsewhere than in durable twins leaves these
pub store_closer : (l : Layout) (words : List ℕ) (p : Location) (x : ℕ) → HasLocation l p → ((w : Word) → Durable w ≡ p → ⊥) → IsCloser l words (slice_set words (address_of l p) x)
store_closer l words p x has other w has_word = inl (at-set_other l words p (Durable w) x has has_word (other w))

-- the durable words of a node
pub closer_spot : (l : Layout) (words words' : List ℕ) → IsNearer l words words' → (n offset : ℕ)
    → (durable_spot l words' n offset ≡ durable_spot l words n offset) ⊎ (durable_spot l words' n offset ≡ spot_in l words n offset)
unfolding durable_spot spot_in
closer_spot l words words' closer n offset =
    elim (in_spot l n offset) as (λ b. in_spot l n offset ≡ b → (cond b (at l words' (Durable (Node n offset))) 0 ≡ cond b (at l words (Durable (Node n offset))) 0)
    ⊎ (cond b (at l words' (Durable (Node n offset))) 0 ≡ cond b (at l words (Cached (Node n offset))) 0)) [
      | true ↦ λ is. closer (Node n offset) (in_spot-true l n offset is).0 (λ line. line)
      | false ↦ λ is. inl refl
    ] refl

-- a node goes on to back its call
closer_backed : (l : Layout) (f : Facts) (d d' : Spot) (n : ℕ) (h : Held) → ((offset : ℕ) → (d' offset ≡ d offset) ⊎ (d' offset ≡ f.now n offset)) → IsBacked l f d n h → IsBacked l f d' n h
closer_backed l f d d' n h closer backed = record {
  clean = λ offset spared. ⊎_elim (λ stays. stays ∙ backed.clean offset spared) (λ is. is) (closer offset);
  fixed = λ offset low high. ⊎_elim (λ stays. stays ∙ backed.fixed offset low high) (λ is. is) (closer offset);
  mixes = λ mix is. backed.mixes mix (λ offset.
      ⊎_elim (λ durable. ⊎_elim (λ stays. inl (durable ∙ stays)) (λ cached. inr (durable ∙ cached)) (closer offset)) (λ cached. inr cached) (is offset));
}

-- and so do the two of a split
closer_left : (l : Layout) (f : Facts) (d d' : Spot) (left fresh : Grip) (phase : Phase) → ((offset : ℕ) → (d' offset ≡ d offset) ⊎ (d' offset ≡ f.now left.node offset))
    → IsBackedLeft l f d left fresh phase → IsBackedLeft l f d' left fresh phase
closer_left l f d d' left fresh (Filling lit) closer backed = λ offset. ⊎_elim (λ stays. stays ∙ backed offset) (λ is. is) (closer offset)
closer_left l f d d' left fresh Linked closer backed = (
  λ offset apart. ⊎_elim (λ stays. stays ∙ backed.0 offset apart) (λ is. is) (closer offset),
  ⊎_elim (λ stays. ⊎_elim (λ is. inl (stays ∙ is)) (λ was. inr (stays ∙ was)) backed.1) (λ is. inl is) (closer next_offset),
)
closer_left l f d d' left fresh Parted closer backed = (
  λ offset apart. ⊎_elim (λ stays. stays ∙ backed.0 offset apart) (λ is. is) (closer offset),
  λ mix is. backed.1 mix (λ offset.
      ⊎_elim (λ durable. ⊎_elim (λ stays. inl (durable ∙ stays)) (λ cached. inr (durable ∙ cached)) (closer offset)) (λ cached. inr cached) (is offset)),
)

closer_fresh : (f : Facts) (d d' : Spot) (fresh : Grip) (phase : Phase) → ((offset : ℕ) → (d' offset ≡ d offset) ⊎ (d' offset ≡ f.now fresh.node offset))
    → IsBackedFresh f d fresh phase → IsBackedFresh f d' fresh phase
closer_fresh f d d' fresh (Filling lit) closer backed = tt
closer_fresh f d d' fresh Linked closer backed = λ offset. ⊎_elim (λ stays. stays ∙ backed offset) (λ is. is) (closer offset)
closer_fresh f d d' fresh Parted closer backed = λ offset. ⊎_elim (λ stays. stays ∙ backed offset) (λ is. is) (closer offset)

closer_join : (l : Layout) (f : Facts) (d d' : Spot) (left right : Grip) (pace : Pace) → ((offset : ℕ) → (d' offset ≡ d offset) ⊎ (d' offset ≡ f.now left.node offset))
    → IsBackedJoin l f d left right pace → IsBackedJoin l f d' left right pace
closer_join l f d d' left right Gathered closer backed = (
  λ offset apart. ⊎_elim (λ stays. stays ∙ backed.0 offset apart) (λ is. is) (closer offset),
  λ mix is. backed.1 mix (λ offset.
      ⊎_elim (λ durable. ⊎_elim (λ stays. inl (durable ∙ stays)) (λ cached. inr (durable ∙ cached)) (closer offset)) (λ cached. inr cached) (is offset)),
)
closer_join l f d d' left right Joined closer backed = (
  λ offset apart. ⊎_elim (λ stays. stays ∙ backed.0 offset apart) (λ is. is) (closer offset),
  ⊎_elim (λ stays. ⊎_elim (λ is. inl (stays ∙ is)) (λ was. inr (stays ∙ was)) backed.1) (λ is. inl is) (closer next_offset),
)
closer_join l f d d' left right Gone closer backed = λ offset. ⊎_elim (λ stays. stays ∙ backed offset) (λ is. is) (closer offset)

module _ (l : Layout) (words words' : List ℕ) (base : Map) (history : List Write) (closer : IsNearer l words words') where
  abbrev f : Facts
  f = facts_of l words base history

  pub closer_stage : (u : Stage) → BacksStage l f words u → BacksStage l f words' u
  closer_stage Idle backed = tt
  closer_stage (Saw n v w k) backed = tt
  closer_stage (Holds n w h) backed = closer_backed l f (durable_spot l words n) (durable_spot l words' n) n h (closer_spot l words words' closer n) backed
  closer_stage (Eyes n w h m v u free) backed = closer_backed l f (durable_spot l words n) (durable_spot l words' n) n h (closer_spot l words words' closer n) backed
  closer_stage (Wears n v) backed = tt
  closer_stage (Reads n v sight told) backed = tt
  closer_stage (Leaves left) backed = λ offset. ⊎_elim (λ stays. stays ∙ backed offset) (λ is. is) (closer_spot l words words' closer left.node offset)
  closer_stage (Meets n w h right) backed = (
    closer_backed l f (durable_spot l words n) (durable_spot l words' n) n h (closer_spot l words words' closer n) backed.0,
    λ offset. ⊎_elim (λ stays. stays ∙ backed.1 offset) (λ is. is) (closer_spot l words words' closer right.node offset),
  )
  closer_stage (Joins h left right pace) backed = record {
    left_clean = λ offset spared. ⊎_elim (λ stays. stays ∙ backed.left_clean offset spared) (λ is. is) (closer_spot l words words' closer left.node offset);
    right_backed = λ offset. ⊎_elim (λ stays. stays ∙ backed.right_backed offset) (λ is. is) (closer_spot l words words' closer right.node offset);
    left_backed = closer_join l f (durable_spot l words left.node) (durable_spot l words' left.node) left right pace (closer_spot l words words' closer left.node) backed.left_backed;
  }
  closer_stage (Splits left fresh phase) backed = record {
    left_clean = λ offset spared. ⊎_elim (λ stays. stays ∙ backed.left_clean offset spared) (λ is. is) (closer_spot l words words' closer left.node offset);
    fresh_clean = λ offset spared. ⊎_elim (λ stays. stays ∙ backed.fresh_clean offset spared) (λ is. is) (closer_spot l words words' closer fresh.node offset);
    left_backed = closer_left l f (durable_spot l words left.node) (durable_spot l words' left.node) left fresh phase (closer_spot l words words' closer left.node) backed.left_backed;
    fresh_backed = closer_fresh f (durable_spot l words fresh.node) (durable_spot l words' fresh.node) fresh phase (closer_spot l words words' closer fresh.node) backed.fresh_backed;
  }

  pub closer_durable : (g : ℕ) → AreDurable l g f words → AreDurable l g f words'
  closer_durable g durable n here free offset = ⊎_elim (λ stays. stays ∙ durable n here free offset) (λ is. is) (closer_spot l words words' closer n offset)

  pub closer_versions : (g : ℕ) → AreKnown l g f → AreDurablyKnown l g words → AreDurablyKnown l g words'
  closer_versions g known durably n here =
      let has : HasWordAt l n version_offset = (here, omega arith) in
      ⊎_elim
      (λ (stays : at l words' (Durable (Node n version_offset)) ≡ at l words (Durable (Node n version_offset))). subst (λ (v : ℕ). generation_of v ≤ g) (sym stays) (durably n here))
      (λ (is : at l words' (Durable (Node n version_offset)) ≡ at l words (Cached (Node n version_offset))).
      subst (λ (v : ℕ). generation_of v ≤ g) (version_in-here l words n here ∙ sym is) (known n here))
      (closer (Node n version_offset) has (λ line. line))

-- blank words are words, and no node's
pub blank_word : (l : Layout) (w : Word) → IsBlank w → HasWord l w × ((n offset : ℕ) → w ≡ Node n offset → ⊥)
blank_word l (Header o) is = (is.1, λ n offset e. cc)
blank_word l (Root o) is = (is.1, λ n offset e. cc)
blank_word l (Node n o) is = absurd is
blank_word l (Line c j o) is = absurd is
blank_word l (Leaf k o) is = absurd is
blank_word l (Cell kind k o) is = absurd is

-- nor a line's or the layer's
pub aside_blank : (l : Layout) (w : Word) → IsBlank w → IsAside w → ⊥
aside_blank l (Line c j o) is line = is
aside_blank l (Header o) is line = line
aside_blank l (Root o) is line = let some_offset : 1 ≤ o = is.0 in let none : o ≡ 0 = line in omega arith
aside_blank l (Node n o) is line = line
aside_blank l (Leaf k o) is line = is
aside_blank l (Cell kind k o) is line = is

-- and the words in front of the nodes stay
pub closer_front : (l : Layout) (g : ℕ) (words words' : List ℕ) → IsNearer l words words' → IsFront l g words Cached → IsFront l g words Durable → IsFront l g words' Durable
closer_front l g words words' closer cached durable = record {
  generation = ⊎_elim (λ stays. stays ∙ durable.generation) (λ is. is ∙ cached.generation) (closer (Header generation_offset) (omega arith) (λ line. line));
  blank = λ w blank. ⊎_elim (λ stays. stays ∙ durable.blank w blank) (λ is. is ∙ cached.blank w blank) (closer w (blank_word l w blank).0 (aside_blank l w blank));
}

pub cached_front : (l : Layout) (g : ℕ) (words words' : List ℕ) → ((w : Word) → HasWord l w → ((n offset : ℕ) → w ≡ Node n offset → ⊥) → at l words' (Cached w) ≡ at l words (Cached w))
    → IsFront l g words Cached → IsFront l g words' Cached
cached_front l g words words' same front = record {
  generation = same (Header generation_offset) (omega arith) (λ n offset e. cc) ∙ front.generation;
  blank = λ w blank. same w (blank_word l w blank).0 (blank_word l w blank).1 ∙ front.blank w blank;
}
