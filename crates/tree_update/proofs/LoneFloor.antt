-- A floor with nobody else at the row: told the row's words, it answers the floor of its key.
use Rattle.std.proofs.Common.{◌≡◌, ℕ, zero, suc, ◌≤◌, List, IsSomeAnd, sym, ap, subst, ◌∙◌, arith}
use Rattle.std.proofs.lemmas.List.{set-get_or}
use Rattle.pm_words.specs.declared.layout.Layout.{Layout}
use Rattle.pm_words.specs.declared.machine.Turn.{Turn}
use Rattle.pm_words.specs.declared.machine.Turn.TheVariants.{Go, Done}
use Rattle.pm_words.specs.Locations.{Cached}
use Rattle.pm_words.specs.Rows.{IsRow, CanAct, got, acted}
use Rattle.pm_words.proofs.Apart.{addresses_within}
use Rattle.layer_map.specs.Layers.{IsFloorOf}
use Rattle.layer_map.specs.Keys.{key_number, IsKey}
use Rattle.tree_law.specs.Words.{word_in}
use Rattle.tree_row.specs.Rows.{image_word, layer_words, layer_address}
use Rattle.tree_row.proofs.RowLaw.{reads_fit, reads_words}
use Rattle.tree_floor.specs.declared.floor.Floor.{Floor}
use Rattle.tree_floor.specs.Floors.{floor_word, floor_asks, floor_starts, floor_turned, floor_turn, floor_left, floor_most, IsFloor, FloorAfter}
use Rattle.tree_floor.specs.Telling.{turn_answer, answer_in}
use Rattle.tree_floor.proofs.FloorLoads.{floor_only_loads}
use Rattle.tree_floor.proofs.FloorStays.{floor_stays}
use Rattle.tree_floor.proofs.FloorExact.{floor_is_exact}
use Rattle.tree_update.specs.Alone.{IsInOrder}
use Rattle.tree_update.specs.Runs.{layer_in}

-- it answers the floor of this key in so many turns
abbrev pub AnswersIn : Layout → List ℕ → List ℕ → ℕ → Floor → Type 0
AnswersIn l key words times floor =
    IsSomeAnd (answer_in times (floor_turn (layer_words l words Cached)) floor) (IsFloorOf (layer_in l words) (key_number key))

pub record LoneFloor (l : Layout) (key words : List ℕ) (floor : Floor) : Type 0 where
  pub sound : IsFloor floor
  pub layout : floor.layout ≡ l
  pub times : ℕ
  pub answers : AnswersIn l key words times floor

abbrev pub LoneFloorAfter : Layout → List ℕ → List ℕ → Turn Floor ℕ → Type 0
LoneFloorAfter l key words (Go next) = LoneFloor l key words next
LoneFloorAfter l key words (Done node) = IsFloorOf (layer_in l words) (key_number key) node

pub lone_starts : (l : Layout) (key words : List ℕ) (floor : Floor) → IsRow l words → floor ≡ floor_starts l key → IsFloor floor → IsInOrder l words → LoneFloor l key words floor
lone_starts l key words floor row start sound order = record {
  sound = sound;
  layout = ap (λ (f : Floor). f.layout) start;
  times = floor_most;
  answers = subst (λ (f : Floor). AnswersIn l key words floor_most f) (sym start)
      (floor_is_exact l key (layer_words l words Cached) floor_most (omega arith) row.layout is_key (λ p. reads_fit l words Cached p row.fits) order);
}
  where
    is_key : IsKey key
    is_key = subst (λ (f : Floor). IsKey f.key) start sound.key

pub starts_left : (l : Layout) (key : List ℕ) (floor : Floor) → floor ≡ floor_starts l key → floor_left floor ≤ floor_most
starts_left l key floor start = subst (λ (f : Floor). floor_left f ≤ floor_most) (sym start) (omega arith)

pub lone_can : (l : Layout) (key words : List ℕ) (floor : Floor) → LoneFloor l key words floor → CanAct l words (floor_asks floor)
lone_can l key words floor lone = subst (λ (m : Layout). CanAct m words (floor_asks floor)) lone.layout
    (addresses_within floor.layout (Cached (image_word (floor_word floor.at))) (floor_only_loads floor lone.sound), tt)

-- it only loads
pub keeps_words : (l : Layout) (words : List ℕ) (floor : Floor) → acted l words (floor_asks floor) ≡ words
keeps_words l words floor = set-get_or words (layer_address floor.layout (floor_word floor.at)) 0

-- it is told the row's word
lone_told : (l : Layout) (words : List ℕ) (floor : Floor) → IsFloor floor → floor.layout ≡ l → word_in (layer_words l words Cached) (floor_word floor.at) ≡ got l words (floor_asks floor)
lone_told l words floor is same =
    subst (λ (k : Layout). word_in (layer_words k words Cached) (floor_word floor.at) ≡ got k words (floor_asks floor)) same
    (reads_words floor.layout words Cached (floor_word floor.at) (floor_only_loads floor is))

-- with this turn and so many more it answers the floor of this key
abbrev TurnsTo : Layout → List ℕ → List ℕ → ℕ → Turn Floor ℕ → Type 0
TurnsTo l key words times turn =
    IsSomeAnd (turn_answer turn (answer_in times (floor_turn (layer_words l words Cached)))) (IsFloorOf (layer_in l words) (key_number key))

pub lone_turns : (l : Layout) (key words : List ℕ) (floor : Floor) (turn : Turn Floor ℕ) → IsRow l words → LoneFloor l key words floor → floor_turned floor (got l words (floor_asks floor)) ≡ turn → LoneFloorAfter l key words turn
lone_turns l key words floor turn row lone is = by lone.times lone.answers
  where
    goes_on : (turn : Turn Floor ℕ) (times : ℕ) → FloorAfter floor.layout floor.key (floor_left floor) turn → TurnsTo l key words times turn → LoneFloorAfter l key words turn
    goes_on (Go next) times after answers = record { sound = after.0; layout = after.1 ∙ lone.layout; times = times; answers = answers }
    goes_on (Done node) times after answers = answers

    by : (times : ℕ) → AnswersIn l key words times floor → LoneFloorAfter l key words turn
    by zero answers = absurd answers
    by (suc times) answers =
        goes_on turn times
        (subst (λ (t : Turn Floor ℕ). FloorAfter floor.layout floor.key (floor_left floor) t) is (floor_stays floor (got l words (floor_asks floor)) (lone.sound, row.fits _)))
        (subst (λ (t : Turn Floor ℕ). TurnsTo l key words times t) is
        (subst (λ (n : ℕ). TurnsTo l key words times (floor_turned floor n)) (lone_told l words floor lone.sound lone.layout) answers))
