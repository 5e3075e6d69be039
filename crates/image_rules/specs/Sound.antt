-- Which images are sound, which word of another is the first that breaks a rule, and which map a sound one keeps.
use Rattle.std.specs.Prelude.{◌≡◌, ℕ, zero, suc, ◌<◌, Bool, if◌then◌else◌, List, [], ◌∷◌, Some}
use Rattle.std.specs.FinMap.{empty, insert}
use Rattle.pm_words.specs.declared.layout.Layout.{Layout}
use Rattle.pm_words.specs.Locations.{Word}
use Rattle.cat_key.specs.Names.{IsName, bytes_of}
use Rattle.cat_history.specs.Maps.{Map, at}
use Rattle.data_node.specs.Spots.{Spot, Means, name_words, value_in}
use Rattle.data_node.specs.Lists.{ListNode}
use Rattle.data_node.specs.Weights.{has_name_in}
use Rattle.image_rules.specs.Lowest.{IsFirst}
use Rattle.image_rules.specs.Nodes.{image_spot, image_list, IsListedNode, image_range}
use Rattle.image_rules.specs.Rules.{BreaksHeader, BreaksVersions, LeadsOut, LeadsBack, BreaksAnchors, BreaksInNode}
use Rattle.image_rules.specs.Rules.{BreaksLines}
use Rattle.image_rules.specs.declared.broken.Broken.{Broken}
use Rattle.image_rules.specs.declared.listed.NodeRule.TheVariants.{Names, Prints, Apart}

-- The image breaks the rule of this number at a position of its list, at this word. The rules that aren't on the list
-- have position 0.
pub data Breaks (l : Layout) (image : List ℕ) : ℕ → ℕ → Word → Type 0 where
  in_header : {w : Word} → BreaksHeader l image w → Breaks l image 1 0 w
  in_versions : {w : Word} → BreaksVersions l image w → Breaks l image 2 0 w
  leads_out : {position : ℕ} {w : Word} → LeadsOut l image position w → Breaks l image 3 position w
  leads_back : {position : ℕ} {w : Word} → LeadsBack l image position w → Breaks l image 4 position w
  in_anchors : {position : ℕ} {w : Word} → BreaksAnchors l image position w → Breaks l image 5 position w
  in_names : {position : ℕ} {w : Word} → BreaksInNode l image Names position w → Breaks l image 6 position w
  in_prints : {position : ℕ} {w : Word} → BreaksInNode l image Prints position w → Breaks l image 7 position w
  in_apart : {position : ℕ} {w : Word} → BreaksInNode l image Apart position w → Breaks l image 8 position w
  in_lines : {w : Word} → BreaksLines l image w → Breaks l image 9 0 w

-- It breaks no rule below this number at any word,
abbrev pub AreKept : Layout → List ℕ → ℕ → Type 0
AreKept l image limit = (rule position : ℕ) (w : Word) → rule < limit → ¬ Breaks l image rule position w

-- and no rule at all.
abbrev pub IsSound : Layout → List ℕ → Type 0
IsSound l image = (rule position : ℕ) (w : Word) → ¬ Breaks l image rule position w

-- It breaks this rule and no lower one, and the word is the first at which it does, in the order of the list.
pub record IsFirstBroken (l : Layout) (image : List ℕ) (broken : Broken) : Type 0 where
  pub no_lower_rule : AreKept l image broken.rule
  pub first : IsFirst l (Breaks l image broken.rule) (Some broken.word)

-- Each listed node has, of the names that belong there, what the map has; and the map has names alone.
pub record IsMapOf (l : Layout) (image : List ℕ) (m : Map) : Type 0 where
  pub means : (n : ℕ) → IsListedNode l image n → Means l.slots (image_range l image n) (image_spot l image n) m
  pub names : (name : List ℕ) (value : ℕ) → at m name ≡ Some value → IsName name

-- The map, and what the live ones of the first so many slots have under their names, those of the range.
abbrev pub with_slots : (List ℕ → Bool) → Spot → Map → ℕ → Map
with_slots range s m zero = m
with_slots range s m (suc slot) =
    if has_name_in range s slot then insert (with_slots range s m slot) (bytes_of (name_words s slot)) (value_in s slot)
    else with_slots range s m slot

-- The map, and what this node and those behind it have under the names that belong to them.
abbrev pub with_nodes : ℕ → (ℕ → List ℕ → Bool) → (ℕ → Spot) → Map → ℕ → List ListNode → Map
with_nodes slots range now m here [] = with_slots (range here) (now here) m slots
with_nodes slots range now m here (next ∷ behind) =
    with_nodes slots range now (with_slots (range here) (now here) m slots) next.node behind

-- The map that an image keeps, if it is sound: the pairs of all listed nodes' live slots within their ranges.
abbrev pub image_map : Layout → List ℕ → Map
image_map l image = with_nodes l.slots (image_range l image) (image_spot l image) empty 0 (image_list l image)
