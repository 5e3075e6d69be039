-- An image is sound exactly where its header is in order, its nodes make a list, and each listed node is tidy.
use Rattle.std.proofs.Common.{◌≡◌, ◌≢◌, ℕ, zero, suc, ◌*◌, ◌/◌, ◌%◌, ◌<◌, ◌≤◌, ◌^◌, ◌⊎◌, List, slice_index, inl, inr, refl, sym, ap, subst, ◌∙◌, arith}
use Rattle.std.proofs.lemmas.Bool.{cases_lt, cases_eq}
use Rattle.version_lock.specs.declared.TheConstants.{GENERATION_LIMIT}
use Rattle.version_lock.specs.Versions.{generation_of}
use Rattle.cat_key.specs.Names.{IsName, AreNameWords, words_of, bytes_of, fingerprint_of}
use Rattle.cat_key.proofs.Packing.{bytes_of-words_of}
use Rattle.pm_words.specs.declared.layout.Layout.{Layout}
use Rattle.pm_words.specs.Locations.{Word, Header, Node, Line, word_at}
use Rattle.data_node.specs.Spots.{Spot, IsLiveIn, name_words, print_in_spot, IsTidy}
use Rattle.std.specs.List.{AllByRecursion}
use Rattle.data_node.specs.Lines.{IsEntry, IsFitLine}
use Rattle.data_node.specs.Lists.{ListNode, anchor_in, key_of, anchor_words, members_from, IsChain, Rise, MakeList}
use Rattle.data_node.proofs.ListLemmas.{all_member}
use Rattle.data_node.proofs.KeyLemmas.{anchor_named, named_anchor}
use Rattle.data_node.proofs.PositionLemmas.{position_in, in_position, position_before, position_rise, chain_next, chain_member, StandOnce, once_few, all_positions, rise_positions, members_end}
use Rattle.pm_words.specs.Offsets.{version_offset, bitmap_offset, next_offset, anchor_offset, print_offset, slot_offset}
use Rattle.pm_words.specs.Offsets.{state_offset, kind_offset, line_node_offset, left_offset, spare_offset}
use Rattle.pm_words.specs.Offsets.{generation_offset}
use Rattle.pm_words.specs.Codes.{empty_state, ready_state, split_kind, merge_kind}
use Rattle.image_rules.specs.Nodes.{image_spot, image_list, IsListedNode, IsListedAt, next_in}
use Rattle.image_rules.specs.Rules.{header_generation, IsSpare, line_spot, LeadsOut, LeadsBack, BreaksAnchors, BreaksNames, BreaksPrints, BreaksApart, BreaksBy}
use Rattle.image_rules.specs.declared.listed.NodeRule.{NodeRule}
use Rattle.image_rules.specs.declared.listed.NodeRule.TheVariants.{Names, Prints, Apart}
use Rattle.version_lock.specs.Versions.{IsGeneration}
use Rattle.image_rules.specs.Sound.{in_header, in_versions, leads_out, leads_back, in_anchors, in_names, in_prints, in_apart, in_lines, IsSound}
use Rattle.image_rules.specs.Laws.{SoundKeepsRules, RulesMakeSound}
use Rattle.image_rules.proofs.NameCases.{name_words_or_not}
use Rattle.image_rules.proofs.WordLemmas.{image_spot-fits, image_spot-outside}

-- the bytes in a slot are those of the name whose words stand there
text_of : (s : Spot) (slot : ℕ) (name : List ℕ) → IsName name → words_of name ≡ name_words s slot → bytes_of (name_words s slot) ≡ name
text_of s slot name is_name stands = ap bytes_of (sym stands) ∙ bytes_of-words_of name is_name

generation_or_not : (g : ℕ) → IsGeneration g ⊎ ¬ IsGeneration g
generation_or_not g =
    elim (cases_lt g 1) [
      | inl small ↦ inr (λ is. omega (arith, is.least))
      | inr least ↦ elim (cases_lt g GENERATION_LIMIT) [ inl fits ↦ inl (record { least = least; fits = fits }) | inr past ↦ inr (λ is. omega (arith, is.fits)) ]
    ]

-- a node that breaks no rule of nodes is tidy
pub record BreaksNone (slots : ℕ) (s : Spot) : Type 0 where
  pub names : (offset : ℕ) → ¬ BreaksNames slots s offset
  pub prints : (offset : ℕ) → ¬ BreaksPrints slots s offset
  pub apart : (offset : ℕ) → ¬ BreaksApart slots s offset

bounded_if : (slots : ℕ) (s : Spot) → BreaksNone slots s → s bitmap_offset < 2 ^ slots
bounded_if slots s none =
    elim (cases_lt (s bitmap_offset) (2 ^ slots)) as (λ _. s bitmap_offset < 2 ^ slots) [
      | inl below ↦ below
      | inr past ↦ absurd (none.names bitmap_offset (inl (refl, past)))
    ]

named_if : (slots : ℕ) (s : Spot) → BreaksNone slots s → (slot : ℕ) → slot < slots → IsLiveIn s slot → AreNameWords (name_words s slot)
named_if slots s none slot within live =
    elim (name_words_or_not (name_words s slot)) as (λ _. AreNameWords (name_words s slot)) [
      | inl are ↦ are
      | inr other ↦ absurd (none.names (slot_offset slot 0) (inr (slot, refl, record { within = within; live = live; nameless = other })))
    ]

printed_if : (slots : ℕ) (s : Spot) → BreaksNone slots s → (slot : ℕ) → slot < slots → IsLiveIn s slot →
    print_in_spot s slot ≡ fingerprint_of (bytes_of (name_words s slot))
printed_if slots s none slot within live =
    let named = named_if slots s none slot within live in
    elim (cases_eq (print_in_spot s slot) (fingerprint_of named.0)) as (λ _. print_in_spot s slot ≡ fingerprint_of (bytes_of (name_words s slot))) [
      | inl same ↦ same ∙ ap fingerprint_of (sym (text_of s slot named.0 named.1 named.2))
      | inr other ↦ absurd (none.prints (print_offset slot) (slot, refl, record { within = within; live = live; name = named.0; is_name = named.1; stands = named.2; other = other }))
    ]

apart_if : (slots : ℕ) (s : Spot) → BreaksNone slots s → (slot other : ℕ) → slot < slots → other < slots → IsLiveIn s slot → IsLiveIn s other →
    name_words s slot ≡ name_words s other → slot ≡ other
apart_if slots s none slot other within other_within live other_live same =
    elim (cases_lt slot other) as (λ _. slot ≡ other) [
      | inl below ↦ absurd (none.apart (slot_offset other 0)
          (other, refl, record { within = other_within; live = other_live; lower = slot; below = below; lower_live = live; same = same }))
      | inr reached ↦ elim (cases_lt other slot) as (λ _. slot ≡ other) [
        | inl below ↦ absurd (none.apart (slot_offset slot 0)
            (slot, refl, record { within = within; live = live; lower = other; below = below; lower_live = other_live; same = sym same }))
        | inr also ↦ omega arith
      ]
    ]

pub tidy_if : (slots : ℕ) (s : Spot) → BreaksNone slots s → IsTidy slots s
tidy_if slots s none = record { bounded = bounded_if slots s none; named = named_if slots s none; printed = printed_if slots s none; apart = apart_if slots s none }

-- and a tidy node breaks none
names_kept : (slots : ℕ) (s : Spot) → IsTidy slots s → (offset : ℕ) → ¬ BreaksNames slots s offset
names_kept slots s tidy offset (inl bitmap) = let below = tidy.bounded in omega (arith, bitmap.1)
names_kept slots s tidy offset (inr at) = at.2.nameless (tidy.named at.0 at.2.within at.2.live)

prints_kept : (slots : ℕ) (s : Spot) → IsTidy slots s → (offset : ℕ) → ¬ BreaksPrints slots s offset
prints_kept slots s tidy offset at =
    let is = at.2 in
    is.other (tidy.printed at.0 is.within is.live ∙ ap fingerprint_of (text_of s at.0 is.name is.is_name is.stands))

apart_kept : (slots : ℕ) (s : Spot) → IsTidy slots s → (offset : ℕ) → ¬ BreaksApart slots s offset
apart_kept slots s tidy offset at =
    let is = at.2 in
    let below : is.lower < at.0 = is.below in
    let within : at.0 < slots = is.within in
    let one : is.lower ≡ at.0 = tidy.apart is.lower at.0 (omega arith) within is.lower_live is.live is.same in
    omega arith

-- of a sound image, no listed node breaks a rule of nodes
none_broken : (l : Layout) (image : List ℕ) → IsSound l image → (n : ℕ) → IsListedNode l image n → BreaksNone l.slots (image_spot l image n)
none_broken l image sound n listed =
    let at = in_position 0 (image_list l image) n listed in
    record {
      names = λ offset breaks. sound 6 at.0 (Node n offset) (in_names (record { node = n; offset = offset; listed = at.1; here = refl; breaks = breaks }));
      prints = λ offset breaks. sound 7 at.0 (Node n offset) (in_prints (record { node = n; offset = offset; listed = at.1; here = refl; breaks = breaks }));
      apart = λ offset breaks. sound 8 at.0 (Node n offset) (in_apart (record { node = n; offset = offset; listed = at.1; here = refl; breaks = breaks }));
    }

generation_if : (l : Layout) (image : List ℕ) → IsSound l image → IsGeneration (header_generation l image)
generation_if l image sound =
    elim (generation_or_not (header_generation l image)) as (λ _. IsGeneration (header_generation l image)) [
      | inl counts ↦ counts
      | inr wrong ↦ absurd (sound 1 0 (Header generation_offset) (in_header (inl (refl, wrong))))
    ]

spare_if : (l : Layout) (image : List ℕ) → IsSound l image → (w : Word) → IsSpare w → word_at l image w ≡ 0
spare_if l image sound w spare =
    elim (cases_eq (word_at l image w) 0) as (λ _. word_at l image w ≡ 0) [
      | inl none ↦ none
      | inr used ↦ absurd (sound 1 0 w (in_header (inr (spare, used))))
    ]

versions_if : (l : Layout) (image : List ℕ) → IsSound l image → (n : ℕ) → n < l.nodes → generation_of (word_at l image (Node n version_offset)) ≤ header_generation l image
versions_if l image sound n here =
    elim (cases_lt (header_generation l image) (generation_of (word_at l image (Node n version_offset)))) as (λ _. generation_of (word_at l image (Node n version_offset)) ≤ header_generation l image) [
      | inl later ↦ absurd (sound 2 0 (Node n version_offset) (in_versions (n, refl, record { here = here; later = later })))
      | inr known ↦ known
    ]

-- and its nodes make a list
module _ (l : Layout) (image : List ℕ) (sound : IsSound l image) where
  member_within : (position n : ℕ) → IsListedAt l image (suc position) n → n < l.nodes
  member_within position n at =
      let before = position_before (image_spot l image) l.nodes 0 position n at in
      elim (cases_lt n l.nodes) as (λ _. n < l.nodes) [
        | inl inside ↦ inside
        | inr out ↦ absurd (sound 3 position (Node before.0 next_offset) (leads_out (record {
          node = before.0;
          listed = before.1;
          here = refl;
          leads = λ none. before.3 (sym before.2 ∙ none);
          out = subst (λ k. l.nodes ≤ k) (sym before.2) out;
        })))
      ]

  reached_once : (position later n : ℕ) → position < later → IsListedAt l image position n → IsListedAt l image later n → ⊥
  reached_once position zero n below at at' = omega arith
  reached_once position (suc later) n below at at' =
      let before = position_before (image_spot l image) l.nodes 0 later n at' in
      sound 4 later (Node before.0 next_offset) (leads_back (record {
        node = before.0;
        listed = before.1;
        here = refl;
        leads = λ none. before.3 (sym before.2 ∙ none);
        earlier = position;
        before = omega arith;
        again = subst (IsListedAt l image position) (sym before.2) at;
      }))

  stand_once : StandOnce 0 (image_list l image)
  stand_once position other n at at' =
      elim (cases_lt position other) as (λ _. position ≡ other) [
        | inl less ↦ absurd (reached_once position other n less at at')
        | inr reached ↦ elim (cases_lt other position) as (λ _. position ≡ other) [
          | inl more ↦ absurd (reached_once other position n more at' at)
          | inr also ↦ omega arith
        ]
      ]

  within_if : AllByRecursion (λ (m : ListNode). m.node < l.nodes) (image_list l image)
  within_if = all_positions (image_spot l image) (λ (m : ListNode). m.node < l.nodes) l.nodes 0 member_within

  chain_if : IsChain (image_spot l image) 0 (image_list l image)
  chain_if =
      elim (cases_lt 0 l.nodes) as (λ _. IsChain (image_spot l image) 0 (image_list l image)) [
        | inl some ↦ members_end (image_spot l image) l.nodes 0 (once_few 0 l.nodes (image_list l image) stand_once some within_if)
        | inr none ↦
            let empty : 0 ≡ l.nodes = omega arith in
            subst (λ k. IsChain (image_spot l image) 0 (members_from (image_spot l image) k 0)) empty (image_spot-outside l image 0 next_offset none)
      ]

  lowest_if : anchor_in (image_spot l image 0) ≡ 0
  lowest_if = elim (cases_eq (anchor_in (image_spot l image 0)) 0) as (λ _. anchor_in (image_spot l image 0) ≡ 0) [
    | inl none ↦ none
    | inr other ↦ absurd (sound 5 0 (Node 0 anchor_offset) (in_anchors (refl, other)))
  ]

  rise_if : Rise 0 (image_list l image)
  rise_if = subst (λ k. Rise k (image_list l image)) lowest_if (rise_positions (image_spot l image) l.nodes 0 (λ position b n at at'.
      elim (cases_lt (anchor_in (image_spot l image b)) (anchor_in (image_spot l image n))) as (λ _. anchor_in (image_spot l image b) < anchor_in (image_spot l image n)) [
        | inl above ↦ above
        | inr under ↦ absurd (sound 5 (suc position) (Node n anchor_offset) (in_anchors (record { before = b; node = n; listed_before = at; listed = at'; here = refl; wrong = inr under })))
      ]))

  named_if_listed : (position n : ℕ) → IsListedAt l image (suc position) n → (name : List ℕ) × IsName name × (anchor_in (image_spot l image n) ≡ key_of name)
  named_if_listed position n at =
      let before = position_before (image_spot l image) l.nodes 0 position n at in
      elim (name_words_or_not (anchor_words (image_spot l image n))) as (λ _. (name : List ℕ) × IsName name × (anchor_in (image_spot l image n) ≡ key_of name)) [
        | inl are ↦ anchor_named (image_spot l image n) are
        | inr other ↦ absurd (sound 5 (suc position) (Node n anchor_offset) (in_anchors (record { before = before.0; node = n; listed_before = before.1; listed = at; here = refl; wrong = inl other })))
      ]

  list_if : MakeList l.nodes (image_spot l image) (image_list l image)
  list_if = record {
    chain = chain_if;
    lowest = lowest_if;
    rise = rise_if;
    within = within_if;
    named = all_positions (image_spot l image) (λ (m : ListNode). (name : List ℕ) × IsName name × (m.anchor ≡ key_of name)) l.nodes 0 named_if_listed;
  }

-- each line of the log is in order or not
line_or_not : (nodes : ℕ) (s : Spot) → IsFitLine nodes s ⊎ ¬ IsFitLine nodes s
line_or_not nodes s = elim (cases_eq (s state_offset) empty_state) [
  | inl empty ↦ inl (inl empty)
  | inr used ↦ elim (entry_or_not nodes s) [
    | inl is ↦ inl (inr is)
    | inr other ↦ inr (λ fit. elim fit as (λ _. ⊥) [ inl empty ↦ used empty | inr is ↦ other is ])
  ]
]
  where
    kind_or_not : (k : ℕ) → ((k ≡ split_kind) ⊎ (k ≡ merge_kind)) ⊎ ¬ ((k ≡ split_kind) ⊎ (k ≡ merge_kind))
    kind_or_not k = elim (cases_eq k split_kind) [
      | inl one ↦ inl (inl one)
      | inr more ↦ elim (cases_eq k merge_kind) [
        | inl two ↦ inl (inr two)
        | inr other ↦ inr (λ is. elim is as (λ _. ⊥) [ inl one ↦ more one | inr two ↦ other two ])
      ]
    ]

    entry_or_not : (nodes : ℕ) (s : Spot) → IsEntry nodes s ⊎ ¬ IsEntry nodes s
    entry_or_not nodes s = elim (cases_lt ready_state (s state_offset)) [
      | inl past ↦ inr (λ is. let state = is.state in omega arith)
      | inr state ↦ elim (kind_or_not (s kind_offset)) [
        | inr other ↦ inr (λ is. other is.kind)
        | inl kind ↦ elim (cases_lt (s line_node_offset) 1) [
          | inl first ↦ inr (λ is. let node = is.node in omega arith)
          | inr least ↦ elim (cases_lt (s line_node_offset) nodes) [
            | inr past ↦ inr (λ is. let node = is.node in omega arith)
            | inl within ↦ elim (name_words_or_not (anchor_words s)) [
              | inr nameless ↦ inr (λ is. nameless (is.name, is.is_name, sym is.anchor))
              | inl named ↦ elim (cases_lt (s left_offset) nodes) [
                | inr past ↦ inr (λ is. let left = is.left in omega arith)
                | inl left ↦ elim (cases_eq (s spare_offset) 0) [
                  | inr used ↦ inr (λ is. used is.zero)
                  | inl clear ↦ inl (record { state = state; kind = kind; node = (least, within); name = named.0; is_name = named.1; anchor = sym named.2; left = left; zero = clear })
                ]
              ]
            ]
          ]
        ]
      ]
    ]

lines_if : (l : Layout) (image : List ℕ) → IsSound l image → (line : ℕ) → line < 8 * l.callers → IsFitLine l.nodes (line_spot l image line)
lines_if l image sound line here =
    elim (line_or_not l.nodes (line_spot l image line)) as (λ _. IsFitLine l.nodes (line_spot l image line)) [
      | inl fit ↦ fit
      | inr unfit ↦ absurd (sound 9 0 (Line (line / 8) (line % 8) state_offset) (in_lines (line, refl, record { here = here; unfit = unfit })))
    ]

-- a sound image keeps the rules
pub sound_keeps : SoundKeepsRules
sound_keeps l image sound = record {
  generation = generation_if l image sound;
  spare = spare_if l image sound;
  versions = versions_if l image sound;
  list = list_if l image sound;
  tidy = λ n listed. tidy_if l.slots (image_spot l image n) (none_broken l image sound n listed);
  lines = lines_if l image sound;
}

-- a list leads on within itself, to no node before, and its anchors are in order
module _ (l : Layout) (image : List ℕ) (list : MakeList l.nodes (image_spot l image) (image_list l image)) where
  behind : (position n : ℕ) → IsListedAt l image position n → next_in l image n ≢ 0 → IsListedAt l image (suc position) (next_in l image n)
  behind position n at leads = chain_next (image_spot l image) 0 (image_list l image) list.chain position n at leads

  rises : (position later n m : ℕ) → position < later → IsListedAt l image position n → IsListedAt l image later m → anchor_in (image_spot l image n) < anchor_in (image_spot l image m)
  rises = position_rise (image_spot l image) 0 (image_list l image) list.chain (subst (λ k. Rise k (image_list l image)) (sym list.lowest) list.rise)

  out_kept : (position : ℕ) (w : Word) → ¬ LeadsOut l image position w
  out_kept position w is =
      let next = position_in 0 (image_list l image) (suc position) (next_in l image is.node) (behind position is.node is.listed is.leads) in
      elim next as (λ _. ⊥) [
        | inl none ↦ is.leads none
        | inr among ↦ let inside = all_member (λ n. n < l.nodes) (image_list l image) (next_in l image is.node) list.within among in let out = is.out in omega arith
      ]

  back_kept : (position : ℕ) (w : Word) → ¬ LeadsBack l image position w
  back_kept position w is =
      let before = is.before in
      let above = rises is.earlier (suc position) (next_in l image is.node) (next_in l image is.node) (omega arith) is.again (behind position is.node is.listed is.leads) in
      omega arith

  anchors_kept : ((k : ℕ) → slice_index image k < 2 ^ 64) → (position : ℕ) (w : Word) → ¬ BreaksAnchors l image position w
  anchors_kept fits zero w wrong = wrong.1 list.lowest
  anchors_kept fits (suc position) w is =
      let named = chain_member (image_spot l image) (λ (m : ListNode). (name : List ℕ) × IsName name × (m.anchor ≡ key_of name)) 0 (image_list l image) list.chain list.named position is.node is.listed in
      elim is.wrong as (λ _. ⊥) [
        | inl nameless ↦ nameless (named_anchor (image_spot l image is.node) named.1.0 (λ offset. image_spot-fits l image is.node offset fits) named.1.1 (named.2 ∙ named.1.2))
        | inr under ↦ let above = rises position (suc position) is.before is.node (omega arith) is.listed_before is.listed in omega arith
      ]

in_node_kept : (slots : ℕ) (s : Spot) (rule : NodeRule) → IsTidy slots s → (offset : ℕ) → ¬ BreaksBy rule slots s offset
in_node_kept slots s Names tidy = names_kept slots s tidy
in_node_kept slots s Prints tidy = prints_kept slots s tidy
in_node_kept slots s Apart tidy = apart_kept slots s tidy

-- and one that keeps them is sound
pub keeps_sound : RulesMakeSound
keeps_sound l image is_image keeps rule position w (in_header (inl generation)) = generation.1 keeps.generation
keeps_sound l image is_image keeps rule position w (in_header (inr used)) = used.1 (keeps.spare w used.0)
keeps_sound l image is_image keeps rule position w (in_versions at) = let is = at.2 in let known = keeps.versions at.0 is.here in omega (arith, is.later)
keeps_sound l image is_image keeps rule position w (leads_out is) = out_kept l image keeps.list position w is
keeps_sound l image is_image keeps rule position w (leads_back is) = back_kept l image keeps.list position w is
keeps_sound l image is_image keeps rule position w (in_anchors is) = anchors_kept l image keeps.list is_image.fits position w is
keeps_sound l image is_image keeps rule position w (in_names at) =
    in_node_kept l.slots (image_spot l image at.node) Names (keeps.tidy at.node (position_in 0 (image_list l image) position at.node at.listed)) at.offset at.breaks
keeps_sound l image is_image keeps rule position w (in_prints at) =
    in_node_kept l.slots (image_spot l image at.node) Prints (keeps.tidy at.node (position_in 0 (image_list l image) position at.node at.listed)) at.offset at.breaks
keeps_sound l image is_image keeps rule position w (in_apart at) =
    in_node_kept l.slots (image_spot l image at.node) Apart (keeps.tidy at.node (position_in 0 (image_list l image) position at.node at.listed)) at.offset at.breaks
keeps_sound l image is_image keeps rule position w (in_lines at) = let is = at.2 in is.unfit (keeps.lines at.0 is.here)
