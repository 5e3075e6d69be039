-- A walk along the list that looks for a node with some anchor.
use Rattle.std.proofs.Common.{◌≡◌, ◌≢◌, ℕ, ◌≤◌, List, Option, Some, None, sym, ap, ◌∙◌, arith}
use Rattle.std.specs.Prelude.{MatchOption}
use Rattle.pm_words.specs.Images.{Row}
use Rattle.pm_words.specs.declared.layout.Layout.{Layout}
use Rattle.pm_words.specs.Locations.{Word, Header}
use Rattle.data_node.specs.Spots.{Spot}
use Rattle.data_node.specs.Lists.{anchor_in, anchor_words, number_of, IsIn}
use Rattle.data_node.proofs.KeyLemmas.{anchor-number}
use Rattle.data_node.proofs.PositionLemmas.{in_position}
use Rattle.image_rules.specs.Lowest.{IsFirst}
use Rattle.image_rules.specs.Nodes.{image_spot, image_list, IsListedAt, IsListedNode, LeadWithin}
use Rattle.image_rules.specs.Sound.{IsSound}
use Rattle.image_rules.proofs.ListRules.{lead_within}
use Rattle.image_rules.proofs.WalkLemmas.{IsOfList, Walks, same_node}
use Rattle.image_recovery_law.specs.Columns.{anchor_of, line_anchor}
use Rattle.image_recovery_law.specs.Stages.{LacksAnchor}
use Rattle.image_recovery_law.proofs.SoundColumns.{spots_are}
use Rattle.image_recovery.specs.Plans.{columns, list_of, spot_of, HasAnchorOf}

-- a sound image leads on to its own nodes
pub sound_leads : (l : Layout) (words : List ℕ) → IsSound l words → LeadWithin l words
sound_leads l words sound = lead_within l words 4 (omega arith) (λ rule position w _. sound rule position w)

-- the node at this position has the anchor
pub record HasKeyAt (l : Layout) (words : List ℕ) (key position : ℕ) (w : Word) : Type 0 where
  pub node : ℕ
  pub listed : IsListedAt l words position node
  pub same : anchor_in (image_spot l words node) ≡ key

pub key_of_list : (l : Layout) (words : List ℕ) (key : ℕ) → IsOfList l words (HasKeyAt l words key)
key_of_list l words key = record { listed = λ position w has. (has.node, has.listed) }

-- it doesn't, where the node that stands there has another
pub no_key_at : {l : Layout} {words : List ℕ} {P : ℕ → Word → Type 0} {position n : ℕ} (key : ℕ) → Walks l words P position n → position ≤ l.nodes → anchor_in (image_spot l words n) ≢ key
    → (w : Word) → ¬ HasKeyAt l words key position w
no_key_at {l} {words} {P} {position} {n} key walks within other w has =
    other (ap (λ k. anchor_in (image_spot l words k)) (same_node l words position n has.node (walks.at within) has.listed) ∙ has.same)

-- where no position has it, no listed node has
pub no_key : (l : Layout) (words : List ℕ) (key : ℕ) → IsFirst l (HasKeyAt l words key) None → (n : ℕ) → IsListedNode l words n → anchor_in (image_spot l words n) ≢ key
no_key l words key none n listed same =
    let at = in_position 0 (image_list l words) n listed in
    none at.0 (Header 0) (record { node = n; listed = at.1; same = same })

-- the same by what the columns say
module _ (image : Row) where
  pub anchor_said : (n : ℕ) → anchor_of (columns image) n ≡ anchor_in (spot_of image n)
  anchor_said n = ap (λ (now : ℕ → Spot). anchor_in (now n)) (spots_are image.layout image.words)

  pub line_said : (line : ℕ) (anchor : List ℕ) → anchor ≡ anchor_words ((columns image).line line) → number_of anchor ≡ line_anchor (columns image) line
  line_said line anchor same = ap number_of same ∙ sym (anchor-number ((columns image).line line))

  pub anchored : (line : ℕ) (anchor : List ℕ) → anchor ≡ anchor_words ((columns image).line line) → (found : Option ℕ)
      → MatchOption found ((n : ℕ) → IsIn (list_of image) n → anchor_in (spot_of image n) ≢ number_of anchor) (λ n. IsIn (list_of image) n × (anchor_in (spot_of image n) ≡ number_of anchor))
      → MatchOption found (LacksAnchor (list_of image) (columns image) line) (HasAnchorOf image line)
  anchored line anchor same None lacks = λ n among is. lacks n among (sym (anchor_said n) ∙ is ∙ sym (line_said line anchor same))
  anchored line anchor same (Some n) has = record { listed = has.0; same = anchor_said n ∙ has.1 ∙ line_said line anchor same }
