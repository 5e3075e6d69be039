-- Where the tree of an image is covered.
use Rattle.std.proofs.Common.{◌≡◌, ◌≢◌, ℕ, ◌+◌, ◌*◌, ◌^◌, ◌⊎◌, List, Option, Some, None, inl, inr, refl, sym, subst, ap, ◌∙◌, arith, ◌-◌, ◌<◌, [], ◌∷◌, slice_index}
use Rattle.std.proofs.lemmas.Bool.{cases_eq, cases_lt}
use Rattle.pm_words.specs.declared.layout.Layout.{Layout}
use Rattle.pm_words.specs.Codes.{empty_state}
use Rattle.pm_words.specs.Offsets.{anchor_offset, state_offset}
use Rattle.data_node.specs.Lists.{anchor_words}
use Rattle.data_node.specs.Spots.{Spot}
use Rattle.data_node.proofs.KeyLemmas.{key-number, anchor-number, named_anchor, zero_anchor}
use Rattle.image_rules.specs.Rules.{line_spot}
use Rattle.image_rules.proofs.TidyLemmas.{sound_keeps}
use Rattle.image_layer_rules.proofs.LineLemmas.{line_word-here, line_word-outside}
use Rattle.data_node.proofs.ListLemmas.{member_or}
use Rattle.image_rules.specs.Nodes.{image_list, IsListedNode}
use Rattle.image_rules.specs.Sound.{IsSound}
use Rattle.layer_map.specs.Keys.{key_number}
use Rattle.image_layer_rules.specs.Anchors.{image_anchor, image_lines, line_word, AreKeyWords, IsKeyNumber}
use Rattle.image_layer_rules.proofs.AnchorLemmas.{anchor_is_key}
use Rattle.tree_law.proofs.TreeLaw.{led, leaves_lead}
use Rattle.tree_row.specs.Rows.{image_layer}
use Rattle.image_layer_rules.specs.Faults.{image_tree, image_room, leaf_key}
use Rattle.image_layer_rules.specs.Rules.{image_map, BreaksTree, is_wrong, is_reached_twice, reaches_its_root, has_many, is_uncovered, IsUncovered}
use Rattle.image_layer_rules.specs.Laws.{IsInOrder, CoverTellsKeys, RuleOnCover}
use Rattle.image_layer_rules.proofs.RightLemmas.{key_or_not, rule_on_tree}
use Rattle.image_layer_rules.proofs.ReadLemmas.{leaf_fits}

-- the number of a key's words is that of a key
pub key_is : (words : List ℕ) → AreKeyWords words → IsKeyNumber (key_number words)
key_is words (inl zeros) = inl (ap key_number zeros)
key_is words (inr named) = inr (named.0, named.1, ap key_number (sym named.2) ∙ sym (key-number named.0))

pub leaf_number : (l : Layout) (image : List ℕ) (i : ℕ) → key_number (leaf_key l image i) ≡ (image_tree l image).key i
leaf_number l image i = refl

pub keys_if : (l : Layout) (image : List ℕ) → IsInOrder l image → (key node : ℕ) → image_map l image key ≡ Some node → IsKeyNumber key
keys_if l image order key node leads =
    let by = (leaves_lead (image_room l) (image_tree l image) order.lawful.tree key node).0 leads in
    subst IsKeyNumber (leaf_number l image by.leaf ∙ by.key_is) (key_is (leaf_key l image by.leaf) (order.keys by.leaf by.reached))

-- a key leads to a node or not, and a node is listed with an anchor or not
leads_or_not : (target : Option ℕ) (node : ℕ) → (target ≡ Some node) ⊎ (target ≢ Some node)
leads_or_not None node = inr (λ e. let clash : None ≡ Some node = e in absurd (cc))
leads_or_not (Some other) node = elim (cases_eq other node) [
  | inl same ↦ inl (ap Some same)
  | inr apart ↦ inr (λ e. let same : Some other ≡ Some node = e in apart (cc))
]

listed_or_not : (l : Layout) (image : List ℕ) (n : ℕ) → IsListedNode l image n ⊎ ¬ IsListedNode l image n
listed_or_not l image n = elim (cases_eq n 0) [
  | inl first ↦ inl (inl first)
  | inr other ↦ elim (member_or (image_list l image) n) [
    | inl among ↦ inl (inr among)
    | inr outside ↦ inr (λ listed. elim listed as (λ _. ⊥) [ inl first ↦ other first | inr among ↦ outside among ])
  ]
]

has_or_not : (l : Layout) (image : List ℕ) (key n : ℕ) → (IsListedNode l image n × (image_anchor l image n ≡ key)) ⊎ ¬ (IsListedNode l image n × (image_anchor l image n ≡ key))
has_or_not l image key n = elim (listed_or_not l image n) [
  | inr outside ↦ inr (λ has. outside has.0)
  | inl listed ↦ elim (cases_eq (image_anchor l image n) key) [
    | inl same ↦ inl (listed, same)
    | inr apart ↦ inr (λ has. apart has.1)
  ]
]

pub uncovered_if : (l : Layout) (image : List ℕ) (rule : ℕ) → rule ≡ 12 → BreaksTree l image rule → (key : ℕ) × (node : ℕ) × IsUncovered l image key node
uncovered_if l image rule is (is_wrong q way wrong) = absurd (omega arith)
uncovered_if l image rule is (is_reached_twice x y a b twice) = absurd (omega arith)
uncovered_if l image rule is (reaches_its_root x b way some_child same) = absurd (omega arith)
uncovered_if l image rule is (has_many many) = absurd (omega arith)
uncovered_if l image rule is (is_uncovered key node differ) = (key, node, differ)

pub rule_on_cover : RuleOnCover
rule_on_cover l image is sound right =
    let order = (rule_on_tree l image is).0 right in (
      λ covers key node closed. (
        λ leads. elim (has_or_not l image key node) [
          | inl has ↦ has
          | inr wrong ↦ absurd (covers (is_uncovered key node (record { is_key = keys_if l image order key node leads; closed = closed; differ = inl (leads, wrong) })))
        ],
        λ has. elim (leads_or_not (image_map l image key) node) [
          | inl leads ↦ leads
          | inr wrong ↦ absurd (covers (is_uncovered key node (record { is_key = subst IsKeyNumber has.1 (anchor_is_key l image sound node has.0); closed = closed; differ = inr (wrong, has.0, has.1) })))
        ],
      ),
      λ covered breaks.
          let found = uncovered_if l image 12 refl breaks in
          let at = covered found.0 found.1 found.2.closed in
          elim found.2.differ as (λ _. ⊥) [ inl leads ↦ leads.1 (at.0 leads.0) | inr has ↦ has.0 (at.1 (has.1, has.2)) ],
    )

-- an anchor of a line that isn't EMPTY is a key
open_key : (l : Layout) (image : List ℕ) → IsSound l image → (line : ℕ) → (image_lines l image).state line ≢ empty_state → IsKeyNumber ((image_lines l image).anchor line)
open_key l image sound line some = elim (cases_lt line (8 * l.callers)) as (λ _. IsKeyNumber ((image_lines l image).anchor line)) [
  | inl here ↦ elim ((sound_keeps l image sound).lines line here) as (λ _. IsKeyNumber ((image_lines l image).anchor line)) [
    | inl empty ↦ absurd (some (line_word-here l image line state_offset here (omega arith) ∙ empty))
    | inr is ↦
        let words : anchor_words (line_word l image line) ≡ anchor_words (line_spot l image line) =
        λ k. line_word-here l image line anchor_offset here (omega arith) k ∷ line_word-here l image line (anchor_offset + 1) here (omega arith) k ∷ line_word-here l image line (anchor_offset + 2) here (omega arith) k ∷ [] in
        inr (is.name, is.is_name, ap key_number (words ∙ is.anchor) ∙ sym (key-number is.name))
  ]
  | inr out ↦ absurd (some (line_word-outside l image line state_offset out))
]

-- a leaf's key as a node's anchor
abbrev leaf_spot : Layout → List ℕ → ℕ → Spot
leaf_spot l image i offset = (image_layer l image).leaf i (offset - 3)

words_are : (l : Layout) (image : List ℕ) (i : ℕ) → ((k : ℕ) → slice_index image k < 2 ^ 64) → IsKeyNumber (key_number (leaf_key l image i)) → AreKeyWords (leaf_key l image i)
words_are l image i fits (inl zeros) = inl (zero_anchor (leaf_spot l image i) (anchor-number (leaf_spot l image i) ∙ zeros))
words_are l image i fits (inr named) =
    inr (named_anchor (leaf_spot l image i) named.0 (λ offset. leaf_fits l image i (offset - 3) fits) named.1 (anchor-number (leaf_spot l image i) ∙ named.2))

pub cover_tells_keys : CoverTellsKeys
cover_tells_keys l image is sound lawful covered = record {
  lawful = lawful;
  keys = λ i way.
      let t = image_tree l image in
      elim (key_or_not (leaf_key l image i)) as (λ _. AreKeyWords (leaf_key l image i)) [
        | inl are ↦ are
        | inr fails ↦
            let wrong : ¬ IsKeyNumber (t.key i) = λ is_key. fails (words_are l image i is.fits (subst IsKeyNumber (sym (leaf_number l image i)) is_key)) in
            let leads = led (image_room l) t lawful.tree i way in
            let has = (covered (t.key i) (t.word i - 1) (λ line. wrong (subst IsKeyNumber line.anchor (open_key l image sound line.line line.state)))).0 leads in
            absurd (wrong (subst IsKeyNumber has.1 (anchor_is_key l image sound (t.word i - 1) has.0)))
      ];
}
