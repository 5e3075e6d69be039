-- Floors of the tree, whatever they are told, and where the words stay.
use Rattle.std.proofs.Common.{◌≡◌, ℕ, suc, ◌+◌, ◌^◌, ◌<◌, ◌≤◌, List, [], ◌∷◌, length, slice_index, IsSomeAnd, refl, sym, subst, arith}
use Rattle.std.proofs.lemmas.List.{set-get_or}
use Rattle.pm_words.specs.declared.layout.Layout.{Layout}
use Rattle.pm_words.specs.declared.machine.Turn.{Turn}
use Rattle.pm_words.specs.declared.machine.Turn.TheVariants.{Go, Done}
use Rattle.pm_words.specs.Layouts.{IsLayout}
use Rattle.pm_words.specs.Locations.{Cached}
use Rattle.pm_words.specs.Rows.{acted}
use Rattle.cat_key.specs.Names.{IsPacked, bytes_of}
use Rattle.layer_map.specs.Keys.{IsKey}
use Rattle.layer_map.proofs.KeyLemmas.{name_is_key}
use Rattle.tree_row.specs.Rows.{image_word, layer_address}
use Rattle.tree_row.proofs.RowLaw.{reads_words}
use Rattle.tree_floor.specs.declared.floor.Floor.{Floor}
use Rattle.tree_floor.specs.declared.floor.FloorAt.{FloorAt}
use Rattle.tree_floor.specs.declared.floor.FloorAt.TheVariants as at
use Rattle.tree_floor.specs.Floors as floors
use Rattle.tree_floor.specs.Floors.{floor_word, floor_asks, floor_starts, floor_turned, IsFloor, at_left, behind_left, floor_left, FloorAfter}
use Rattle.tree_floor.proofs.FloorStays.{floor_stays}
use Rattle.tree_floor.proofs.FloorLoads.{floor_only_loads}
use Rattle.tree_floor.proofs.FloorExact.{floor_is_exact}
use Rattle.search_layer.specs.Floors.{told_turn, answer_of, FloorAnswersANode, FloorTold, FloorIsExact, FloorStays, FloorGoesOn, FloorOnlyLoads}
use Rattle.search_layer.proofs.RowLemmas.{is_place}

pub starts_sound : (l : Layout) (key : List ℕ) → IsLayout l → IsKey key → IsFloor (floor_starts l key)
starts_sound l key layout is = record { layout = layout; key = is; here = (refl, refl) }

-- a floor of a name's words
pub named_starts_sound : (l : Layout) (key : List ℕ) → IsLayout l → IsPacked key → IsFloor (floor_starts l key)
named_starts_sound l key layout is = starts_sound l key layout (subst IsKey is.whole (name_is_key (bytes_of key) is.named))

-- it only loads
pub keeps_words : (l : Layout) (words : List ℕ) (floor : Floor) → acted l words (floor_asks floor) ≡ words
keeps_words l words floor = set-get_or words (layer_address floor.layout (floor_word floor.at)) 0

pub stays : FloorStays
stays floor number is fits = floor_stays floor number (is, fits)

pub exact : FloorIsExact
exact l key w layout is fits order = floor_is_exact l key w floors.floor_most (omega arith) layout is fits order

pub only_loads : FloorOnlyLoads
only_loads floor is = record { word = image_word (floor_word floor.at); place = record { of_layer = is_place (floor_word floor.at); there = floor_only_loads floor is }; loads = refl }

pub told : FloorTold
told floor words is = sym (reads_words floor.layout words Cached (floor_word floor.at) (floor_only_loads floor is))

at_goes_on : (place : FloorAt) → 0 < at_left place
at_goes_on at.Root = omega arith
at_goes_on (at.Key leaf words word) = omega arith
at_goes_on (at.Node leaf) = omega arith
at_goes_on (at.Depth cell) = omega arith
at_goes_on (at.Prefix cell depth words word) = omega arith
at_goes_on (at.Scanning cell depth byte scan) = omega arith

more_left : (n m : ℕ) → 0 < m → 0 < n + m
more_left n m some_left = omega arith

pub goes_on : FloorGoesOn
goes_on floor is = more_left (behind_left floor.last floor.least) (at_left floor.at) (at_goes_on floor.at)

answers : (numbers : List ℕ) (floor : Floor) → IsFloor floor → ((k : ℕ) → slice_index numbers k < 2 ^ 64) → floor_left floor ≤ length numbers → IsSomeAnd (answer_of numbers floor) (λ node. node < floor.layout.nodes)
answers [] floor is fits enough = let some_left = goes_on floor is in absurd (omega arith)
answers (x ∷ xs) floor is fits enough = go (floor_turned floor x) (floor_stays floor x (is, fits 0)) (λ next sound less. answers xs next sound (λ k. fits (suc k)) less)
  where
    go : (turn : Turn Floor ℕ) → FloorAfter floor.layout floor.key (floor_left floor) turn → ((next : Floor) → IsFloor next → floor_left next ≤ length xs → IsSomeAnd (answer_of xs next) (λ node. node < next.layout.nodes))
        → IsSomeAnd (told_turn turn (answer_of xs)) (λ node. node < floor.layout.nodes)
    go (Go next) after rest =
        let fewer = after.3 in
        subst (λ (l : Layout). IsSomeAnd (answer_of xs next) (λ node. node < l.nodes)) after.1 (rest next after.0 (omega arith))
    go (Done node) after rest = after

pub answers_a_node : FloorAnswersANode
answers_a_node l key numbers layout is fits enough =
    let start = floor_starts l key in
    let most : floor_left start ≤ floors.floor_most = omega arith in
    answers numbers start (starts_sound l key layout is) fits (omega arith)
