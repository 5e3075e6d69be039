-- What a call on a map comes to within a budget.
use Rattle.std.specs.Prelude.{◌≡◌, ℕ, ◌+◌, ◌<◌, ◌≤◌, Bool, List, [], ◌∷◌, Option, Some, None, MatchBool, MatchResult}
use Rattle.std.specs.Prelude.{Result, Ok, Err}
use Rattle.std.specs.FinMap.{insert, remove}
use Rattle.cat_history.specs.Maps.{Map, at}
use Rattle.cat_history.specs.Writes.{changed}
use Rattle.cat_history.specs.declared.op.Change.{Change}
use Rattle.shapes.specs.Anchors.{Anchors, IsFullPut, del_anchors, put_anchors}
use Rattle.shapes.specs.declared.map.Full.{Full}
use Rattle.stopped_rounds.specs.MoreCuts.{AreAmong}
use Rattle.stopped_rounds.specs.declared.bounded_map.Bounded.{Bounded}
use Rattle.stopped_rounds.specs.declared.bounded_map.Bounded.TheVariants as bounded

-- The first holds of its answer; or it was cut off, and the second holds of whether its write has a place.
abbrev pub ComesTo : {T : Type 0} → Bounded T → (T → Type 0) → (Bool → Type 0) → Type 0
ComesTo (bounded.Answered answer) answered cut = answered answer
ComesTo (bounded.Cut placed) answered cut = cut placed

-- It takes so many events at most: it was answered, has taken no more of its budget, and this holds behind it; or it
-- was cut off, with a budget below that.
abbrev pub IsInTime : {T : Type 0} → Bounded T → ℕ → ℕ → ℕ → Type 0 → Type 0
IsInTime (bounded.Answered answer) most before after Then = (before ≤ after + most) × Then
IsInTime (bounded.Cut placed) most before after Then = before < most

-- A map and where its members begin, and the changes that were cut off and may be found or not.
pub record MapState : Type 0 where
  pub contents : Map
  pub anchors : Anchors
  pub cut : List Change

-- A call that reads was answered or cut off: nothing has changed.
abbrev pub IsSame : MapState → MapState → Type 0
IsSame s new = (new.contents ≡ s.contents) × (new.anchors ≡ s.anchors) × (new.cut ≡ s.cut)

-- A put was answered: it is full exactly where it is so in the shape, and then nothing has changed.
abbrev pub PutGave : ℕ → ℕ → MapState → List ℕ → ℕ → Result (Option ℕ) Full → MapState → Type 0
PutGave slots most s name value answer new = MatchResult answer
    (λ old. (IsFullPut slots most s.contents s.anchors name → ⊥) × (old ≡ at s.contents name) ×
    (new.contents ≡ insert s.contents name value) × (new.anchors ≡ put_anchors slots s.contents s.anchors name) ×
    (new.cut ≡ s.cut))
    (λ _. IsFullPut slots most s.contents s.anchors name × IsSame s new)

-- A removal was answered.
pub record DelGave (slots : ℕ) (s : MapState) (name : List ℕ) (old : Option ℕ) (new : MapState) : Type 0 where
  pub old_is : old ≡ at s.contents name
  pub contents : new.contents ≡ remove s.contents name
  pub anchors : new.anchors ≡ del_anchors slots s.contents s.anchors name
  pub cut : new.cut ≡ s.cut

-- A change was cut off: the map is the one behind it where it has its place; else it is as it was, and the change may
-- be found or not.
abbrev pub WasCut : MapState → Change → Bool → MapState → Type 0
WasCut s c placed new =
    MatchBool placed ((new.contents ≡ changed s.contents c) × AreAmong new.cut [])
    ((new.contents ≡ s.contents) × AreAmong new.cut (c ∷ []))

-- One where a put added a name, or may have added it, since it was cut off.
abbrev pub put_added : Bounded (Result (Option ℕ) Full) → ℕ
put_added (bounded.Answered (Ok None)) = 1
put_added (bounded.Answered (Ok (Some old))) = 0
put_added (bounded.Answered (Err full)) = 0
put_added (bounded.Cut placed) = 1
