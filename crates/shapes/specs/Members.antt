-- The same in the words of a list of members, each an anchor and a list of names; nothing here speaks of a map.
use Rattle.std.specs.Prelude.{◌≡◌, ◌≢◌, ℕ, ◌+◌, ◌/◌, ◌<◌, ◌≤◌, Bool, true, false, not, List, [], ◌∷◌, ◌++◌, length}
use Rattle.std.specs.Prelude.{take, drop, slice_get, slice_index_or}
use Rattle.std.specs.List.{filter, list_any, AllByRecursion}
use Rattle.std.specs.Ordering.{eq_by_cmp}
use Rattle.cat_key.specs.Names.{name_cmp}
use Rattle.cat_history.specs.Maps.{Map}
use Rattle.shapes.specs.Anchors.{below, Anchors, names_between}

pub record Member : Type 0 where
  pub anchor : List ℕ
  pub names : List (List ℕ)

-- The name is one of these.
abbrev pub is_among : List ℕ → List (List ℕ) → Bool
is_among name names = list_any (eq_by_cmp name_cmp name) names

-- The names with this one among them: those below it, it, and those above it.
abbrev pub with_name : List ℕ → List (List ℕ) → List (List ℕ)
with_name name names = filter (λ other. below other name) names ++ name ∷ filter (λ other. below name other) names

-- The names without this one.
abbrev pub without_name : List ℕ → List (List ℕ) → List (List ℕ)
without_name name names = filter (λ other. not (eq_by_cmp name_cmp name other)) names

-- The member with other names.
abbrev pub named : Member → List (List ℕ) → Member
named member names = record { anchor = member.anchor; names = names }

-- The target of a name is the last member whose anchor is at most the name.
pub record IsTargetMember (name : List ℕ) (shape before : List Member) (target : Member) (after : List Member) : Type 0
  where
    pub place : shape ≡ before ++ target ∷ after
    pub at_most : below name target.anchor ≡ false
    pub last : AllByRecursion (λ member. below name member.anchor ≡ true) after

-- A split leaves the lower half of the names in the member, and a new member has the rest, the least of them as its
-- anchor.
abbrev pub lower : ℕ → Member → Member
lower slots member = named member (take (slots / 2) member.names)

abbrev pub upper : ℕ → Member → Member
upper slots member = record {
  anchor = slice_index_or member.names (slots / 2) [];
  names = drop (slots / 2) member.names;
}

-- What a put comes to.
pub data Outcome : Type 0 where
  Full : Outcome
  Placed : List Member → Outcome

-- A put of a name.
pub data Puts (slots nodes : ℕ) (name : List ℕ) : List Member → Outcome → Type 0 where
  -- the target has the name: nothing changes
  is_there : {shape before after : List Member} {target : Member} → IsTargetMember name shape before target after →
      is_among name target.names ≡ true →
      Puts slots nodes name shape (Placed shape)
  -- it has fewer names than slots: the name joins them
  joins : {shape before after : List Member} {target : Member} → IsTargetMember name shape before target after →
      is_among name target.names ≡ false →
      length target.names < slots →
      Puts slots nodes name shape (Placed (before ++ named target (with_name name target.names) ∷ after))
  -- otherwise the put is full where there are as many members as nodes
  finds_no_node : {shape before after : List Member} {target : Member} → IsTargetMember name shape before target after →
      is_among name target.names ≡ false →
      slots ≤ length target.names → length shape ≡ nodes → Puts slots nodes name shape Full
  -- and otherwise the target is split, and the put is done on this shape
  splits : {shape before after : List Member} {target : Member} {outcome : Outcome} →
      IsTargetMember name shape before target after →
      is_among name target.names ≡ false → slots ≤ length target.names → length shape ≢ nodes →
      Puts slots nodes name (before ++ lower slots target ∷ upper slots target ∷ after) outcome →
      Puts slots nodes name shape outcome

-- A delete of a name.
pub data Deletes (slots : ℕ) (name : List ℕ) : List Member → List Member → Type 0 where
  -- the target lacks the name: nothing changes
  is_absent : {shape before after : List Member} {target : Member} → IsTargetMember name shape before target after →
      is_among name target.names ≡ false →
      Deletes slots name shape shape
  -- otherwise the name goes; that is all where there is no right neighbour
  goes_last : {shape before : List Member} {target : Member} → IsTargetMember name shape before target [] →
      is_among name target.names ≡ true →
      Deletes slots name shape (before ++ named target (without_name name target.names) ∷ [])
  -- or where both together then hold more than half as many names as a node has slots
  goes : {shape before after : List Member} {target right : Member} →
      IsTargetMember name shape before target (right ∷ after) → is_among name target.names ≡ true →
      slots / 2 < length (without_name name target.names) + length right.names →
      Deletes slots name shape (before ++ named target (without_name name target.names) ∷ right ∷ after)
  -- and otherwise the neighbour's names join the target and the neighbour goes
  merges : {shape before after : List Member} {target right : Member} →
      IsTargetMember name shape before target (right ∷ after) → is_among name target.names ≡ true →
      length (without_name name target.names) + length right.names ≤ slots / 2 →
      Deletes slots name shape (before ++ named target (without_name name target.names ++ right.names) ∷ after)

-- The members that anchors make of a map: each has the names from its anchor to the next.
abbrev pub members : Map → Anchors → List Member
members m [] = []
members m (anchor ∷ later) =
    record { anchor = anchor; names = names_between m anchor (slice_get later 0) } ∷ members m later
