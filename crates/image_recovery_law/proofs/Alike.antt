-- Words that are the same but for bitmaps, and keys that are anchors of a list or of open lines.
use Rattle.std.proofs.Common.{◌≡◌, ◌≢◌, ℕ, ◌+◌, zero, suc, ◌%◌, ◌<◌, ◌≤◌, ◌⊎◌, ◌↔◌, Bool, true, List, [], ◌∷◌, slice_index, Option, Some, None, inl, inr, sym, subst, ap, ap₂, ◌∙◌, arith}
use Rattle.std.proofs.lemmas.Bool.{cases_eq, cases_lt}
use Rattle.cat_key.specs.Names.{IsName, AreNameWords, bytes_of, fingerprint_of}
use Rattle.cat_history.specs.Maps.{Map, at}
use Rattle.data_node.specs.Slots.{prints_of}
use Rattle.data_node.specs.Spots.{Spot, IsTidy, Means, Finds, name_words, value_in, print_in_spot}
use Rattle.data_node.specs.Lists.{ListNode, three_words, anchor_in, IsMember, IsIn, IsChain, Rise}
use Rattle.data_node.proofs.ListLemmas.{above}
use Rattle.pm_words.specs.Codes.{empty_state}
use Rattle.pm_words.specs.Offsets.{bitmap_offset, next_offset, anchor_offset, print_offset, slot_offset, value_word}
use Rattle.updater_law.specs.Covers.{Lines, IsOpenFor}
use Rattle.updater_law.specs.Covered.{ListHas, AreApart}
use Rattle.image_recovery_law.specs.Columns.{IsTrim}

-- the words are the same but for the bitmap
abbrev pub AlikeBut : Spot → Spot → Type 0
AlikeBut s t = (offset : ℕ) → offset ≢ bitmap_offset → t offset ≡ s offset

pub anchor_same : (s t : Spot) → t anchor_offset ≡ s anchor_offset → t (anchor_offset + 1) ≡ s (anchor_offset + 1) → t (anchor_offset + 2) ≡ s (anchor_offset + 2) → anchor_in t ≡ anchor_in s
unfolding anchor_in
anchor_same s t a b c = ap₂ (λ x y. three_words x y (t (anchor_offset + 2))) a b ∙ ap (λ z. three_words (s anchor_offset) (s (anchor_offset + 1)) z) c

pub anchor_kept : (s t : Spot) → AlikeBut s t → anchor_in t ≡ anchor_in s
anchor_kept s t same = anchor_same s t (same anchor_offset (λ e. cc)) (same (anchor_offset + 1) (λ e. cc)) (same (anchor_offset + 2) (λ e. cc))

pub chain_kept : (now now' : ℕ → Spot) (here : ℕ) (list : List ListNode) → ((n : ℕ) → AlikeBut (now n) (now' n)) → IsChain now here list → IsChain now' here list
chain_kept now now' here [] same chain = same here next_offset (λ e. cc) ∙ chain
chain_kept now now' here (m ∷ behind) same chain =
    (same here next_offset (λ e. cc) ∙ chain.0, chain.1, anchor_kept (now m.node) (now' m.node) (same m.node) ∙ chain.2, chain_kept now now' m.node behind same chain.3)

pub name_kept : (s t : Spot) (slot : ℕ) → AlikeBut s t → name_words t slot ≡ name_words s slot
name_kept s t slot same =
    let a : t (slot_offset slot 0) ≡ s (slot_offset slot 0) = same (slot_offset slot 0) (λ e. omega arith) in
    let b : t (slot_offset slot 1) ≡ s (slot_offset slot 1) = same (slot_offset slot 1) (λ e. omega arith) in
    let c : t (slot_offset slot 2) ≡ s (slot_offset slot 2) = same (slot_offset slot 2) (λ e. omega arith) in
    λ k. a k ∷ b k ∷ c k ∷ []

pub value_kept : (s t : Spot) (slot : ℕ) → AlikeBut s t → value_in t slot ≡ value_in s slot
value_kept s t slot same = same (slot_offset slot value_word) (λ e. omega arith)

pub print_kept : (s t : Spot) (slot : ℕ) → AlikeBut s t → print_in_spot t slot ≡ print_in_spot s slot
print_kept s t slot same = ap (λ (word : ℕ). slice_index (prints_of word) (slot % 8)) (same (print_offset slot) (λ e. omega arith))

module _ (slots : ℕ) (range : List ℕ → Bool) (s t : Spot) (same : AlikeBut s t) (trim : IsTrim slots range s (t bitmap_offset)) where
  pub tidy_trimmed : IsTidy slots s → IsTidy slots t
  tidy_trimmed tidy = record {
    bounded = trim.bounded;
    named = λ slot lt live. subst AreNameWords (sym (name_kept s t slot same)) (tidy.named slot lt (trim.less slot lt live));
    printed = λ slot lt live. print_kept s t slot same ∙ tidy.printed slot lt (trim.less slot lt live) ∙ ap (λ (ws : List ℕ). fingerprint_of (bytes_of ws)) (sym (name_kept s t slot same));
    apart = λ slot other lt lt' live live' alike.
        tidy.apart slot other lt lt' (trim.less slot lt live) (trim.less other lt' live') (sym (name_kept s t slot same) ∙ alike ∙ name_kept s t other same);
  }

  finds_trimmed : (name : List ℕ) → IsName name → range name ≡ true → (v : Option ℕ) → Finds slots s name v → Finds slots t name v
  finds_trimmed name is inside None finds = λ slot lt live alike. finds slot lt (trim.less slot lt live) (sym (name_kept s t slot same) ∙ alike)
  finds_trimmed name is inside (Some value) finds =
      (finds.0, finds.1, trim.keeps finds.0 name finds.1 finds.2 is inside finds.3, name_kept s t finds.0 same ∙ finds.3, value_kept s t finds.0 same ∙ finds.4)

  finds_untrimmed : (name : List ℕ) → IsName name → range name ≡ true → (v : Option ℕ) → Finds slots t name v → Finds slots s name v
  finds_untrimmed name is inside None finds = λ slot lt live alike. finds slot lt (trim.keeps slot name lt live is inside alike) (name_kept s t slot same ∙ alike)
  finds_untrimmed name is inside (Some value) finds =
      (finds.0, finds.1, trim.less finds.0 finds.1 finds.2, sym (name_kept s t finds.0 same) ∙ finds.3, sym (value_kept s t finds.0 same) ∙ finds.4)

  pub means_trimmed : IsTidy slots s → (m : Map) → Means slots range s m ↔ Means slots range t m
  means_trimmed tidy m = (
    λ means. record { tidy = tidy_trimmed means.tidy; agrees = λ name is inside. finds_trimmed name is inside (at m name) (means.agrees name is inside) },
    λ means. record { tidy = tidy; agrees = λ name is inside. finds_untrimmed name is inside (at m name) (means.agrees name is inside) },
  )

-- two trims one after the other
pub trim_twice : (slots : ℕ) (range : List ℕ → Bool) (s t : Spot) (bits : ℕ) → AlikeBut s t → IsTrim slots range s (t bitmap_offset) → IsTrim slots range t bits → IsTrim slots range s bits
trim_twice slots range s t bits same first second = record {
  bounded = second.bounded;
  less = λ slot lt live. first.less slot lt (second.less slot lt live);
  keeps = λ slot name lt live is inside alike. second.keeps slot name lt (first.keeps slot name lt live is inside alike) is inside (name_kept s t slot same ∙ alike);
}

pub trim_none : (slots : ℕ) (range : List ℕ → Bool) (s : Spot) → IsTidy slots s → IsTrim slots range s (s bitmap_offset)
trim_none slots range s tidy = record { bounded = tidy.bounded; less = λ slot lt live. live; keeps = λ slot name lt live is inside alike. live }

-- anchors of a list are different
members_apart : (now : ℕ → Spot) (least here : ℕ) (list : List ListNode) (n k : ℕ) → IsChain now here list → Rise least list → IsMember list n → IsMember list k → anchor_in (now n) ≡ anchor_in (now k) → n ≡ k
members_apart now least here [] n k chain rise is is' same = absurd is
members_apart now least here (m ∷ behind) n k chain rise (inl e) (inl f) same = e ∙ sym f
members_apart now least here (m ∷ behind) n k chain rise (inl e) (inr later) same =
    let more : m.anchor < anchor_in (now k) = above now m.node m.anchor behind chain.3 rise.1 k later in
    let own : anchor_in (now n) ≡ m.anchor = ap (λ x. anchor_in (now x)) e ∙ chain.2 in
    absurd (omega arith)
members_apart now least here (m ∷ behind) n k chain rise (inr later) (inl f) same =
    let more : m.anchor < anchor_in (now n) = above now m.node m.anchor behind chain.3 rise.1 n later in
    let own : anchor_in (now k) ≡ m.anchor = ap (λ x. anchor_in (now x)) f ∙ chain.2 in
    absurd (omega arith)
members_apart now least here (m ∷ behind) n k chain rise (inr later) (inr later') same = members_apart now m.anchor m.node behind n k chain.3 rise.1 later later' same

pub nodes_apart : (now : ℕ → Spot) (list : List ListNode) → anchor_in (now 0) ≡ 0 → IsChain now 0 list → Rise 0 list → AreApart (IsIn list) (λ n. anchor_in (now n))
nodes_apart now list lowest chain rise n k (inl e) (inl f) same = e ∙ sym f
nodes_apart now list lowest chain rise n k (inl e) (inr is) same =
    let more : 0 < anchor_in (now k) = above now 0 0 list chain rise k is in
    let none : anchor_in (now n) ≡ 0 = ap (λ x. anchor_in (now x)) e ∙ lowest in
    absurd (omega arith)
nodes_apart now list lowest chain rise n k (inr is) (inl f) same =
    let more : 0 < anchor_in (now n) = above now 0 0 list chain rise n is in
    let none : anchor_in (now k) ≡ 0 = ap (λ x. anchor_in (now x)) f ∙ lowest in
    absurd (omega arith)
nodes_apart now list lowest chain rise n k (inr is) (inr is') same = members_apart now 0 0 list n k chain rise is is' same

-- a key is that of a line which isn't empty, or it isn't
open_below : (lines : Lines) (key bound : ℕ) → IsOpenFor lines key ⊎ ((j : ℕ) → j < bound → lines.state j ≢ empty_state → lines.anchor j ≢ key)
open_below lines key zero = inr (λ j lt. absurd (omega arith))
open_below lines key (suc bound) = elim (open_below lines key bound) [
  | inl found ↦ inl found
  | inr none ↦ elim (cases_eq (lines.anchor bound) key) [
    | inr other ↦ inr (λ j lt used. elim (cases_eq j bound) [ inl e ↦ subst (λ x. lines.anchor x ≢ key) (sym e) other | inr ne ↦ none j (omega arith) used ])
    | inl same ↦ elim (cases_eq (lines.state bound) 0) [
      | inr used ↦ inl (record { line = bound; state = used; anchor = same })
      | inl empty ↦ inr (λ j lt used. elim (cases_eq j bound) [ inl e ↦ absurd (used (ap lines.state e ∙ empty)) | inr ne ↦ none j (omega arith) used ])
    ]
  ]
]

pub open_or_not : (lines : Lines) (key bound : ℕ) → ((j : ℕ) → bound ≤ j → lines.state j ≡ empty_state) → IsOpenFor lines key ⊎ (IsOpenFor lines key → ⊥)
open_or_not lines key bound beyond = elim (open_below lines key bound) [
  | inl found ↦ inl found
  | inr none ↦ inr (λ is. elim (cases_lt is.line bound) [ inl lt ↦ none is.line lt is.state is.anchor | inr past ↦ is.state (beyond is.line past) ])
]

-- what the list has at a key, as an equivalence
pub has_exactly : (listed : ℕ → Type 0) (anchor : ℕ → ℕ) (key : ℕ) (found : Option ℕ) → AreApart listed anchor → ListHas listed anchor key found → (node : ℕ) → (found ≡ Some node) ↔ (listed node × (anchor node ≡ key))
has_exactly listed anchor key None apart has node = (λ e. absurd cc, λ is. absurd (has node is.0 is.1))
has_exactly listed anchor key (Some m) apart has node = (
  λ e. let one : m ≡ node = cc in (subst listed one has.0, ap anchor (sym one) ∙ has.1),
  λ is. ap Some (apart m node has.0 is.0 (has.1 ∙ sym is.1)),
)
