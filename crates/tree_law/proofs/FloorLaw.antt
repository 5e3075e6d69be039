-- A floor in a tree in order is exact.
use Rattle.std.proofs.Common.{◌≡◌, ◌≢◌, ℕ, zero, suc, ◌+◌, ◌<◌, ◌≤◌, ◌⊎◌, true, false, cond, ltb, leb, Option, Some, None, inl, inr, refl, sym, subst, ap, ◌∙◌, arith}
use Rattle.std.proofs.lemmas.Bool.{cases_eq, cases_lt, ltb-true, ltb-false, leb-true, leb-false}
use Rattle.layer_map.specs.Layers.{IsFloorOf}
use Rattle.tree_law.specs.Trees.{Reference, Nothing, Leaf, Cell, Tree, Reaches, here, below, Room, IsUnder, IsCell, IsSoundFrom, IsTree, span, byte_at, depth_of, first_bytes, layer_in}
use Rattle.tree_law.specs.Floors.{child_or, child_below, last_leaf, floor_in, landed, FloorIsExact}
use Rattle.tree_law.proofs.Spans.{span_last, byte_of, ByteOf, edges_rise}
use Rattle.tree_law.proofs.Reach.{is_nothing, depth_most, child_sound, within, below_child}
use Rattle.tree_law.proofs.TreeLaw.{led, has_key, some_or_none}
use Rattle.tree_law.specs.Trees.{way_length}
use Rattle.radix_nodes.specs.Keys.{key_bytes}

-- the child under the greatest byte below this one, if there is a child
pub record HasGreatest (t : Tree) (x b : ℕ) : Type 0 where
  pub byte : ℕ
  pub below : byte < b
  pub some_child : t.child x byte ≢ Nothing
  pub is : child_below t x b ≡ t.child x byte
  pub above : (c : ℕ) → byte < c → c < b → t.child x c ≡ Nothing

pub or_some : (r other : Reference) → r ≢ Nothing → child_or r other ≡ r
or_some Nothing other some_child = absurd (some_child refl)
or_some (Leaf i) other some_child = refl
or_some (Cell x) other some_child = refl

pub greatest : (t : Tree) (x b : ℕ) → HasGreatest t x b ⊎ ((child_below t x b ≡ Nothing) × ((c : ℕ) → c < b → t.child x c ≡ Nothing))
greatest t x zero = inr (refl, λ c lt. absurd (omega arith))
greatest t x (suc b) = elim (is_nothing (t.child x b)) [
  | inl none ↦ elim (greatest t x b) [
    | inl some_below ↦ let lt : some_below.byte < b = some_below.below in inl (record {
      byte = some_below.byte;
      below = omega arith;
      some_child = some_below.some_child;
      is = ap (λ r. child_or r (child_below t x b)) none ∙ some_below.is;
      above = λ c past lt. elim (cases_eq c b) [ inl same ↦ ap (t.child x) same ∙ none | inr apart ↦ some_below.above c past (omega (arith, apart)) ];
    })
    | inr none_below ↦ inr (
      ap (λ r. child_or r (child_below t x b)) none ∙ none_below.0,
      λ c lt. elim (cases_eq c b) [ inl same ↦ ap (t.child x) same ∙ none | inr apart ↦ none_below.1 c (omega (arith, apart)) ],
    )
  ]
  | inr some_child ↦ inl (record { byte = b; below = omega arith; some_child = some_child; is = or_some (t.child x b) (child_below t x b) some_child; above = λ c past lt. absurd (omega arith) })
]

-- below which child a leaf is
pub record ViaChild (t : Tree) (x i : ℕ) : Type 0 where
  pub byte : ℕ
  pub some_child : t.child x byte ≢ Nothing
  pub reach : Reaches t (t.child x byte) (Leaf i)

via : (t : Tree) (x i : ℕ) (r q : Reference) → r ≡ Cell x → q ≡ Leaf i → Reaches t r q → ViaChild t x i
via t x i r q from to here = absurd (let same : Cell x ≡ Leaf i = sym from ∙ to in cc)
via t x i r q from to (below {x = y} {b = b} some_child reach) =
    let same : y ≡ x = cc in
    record { byte = b; some_child = λ e. some_child (ap (λ z. t.child z b) same ∙ e); reach = subst (λ z. Reaches t (t.child z b) (Leaf i)) same (subst (Reaches t (t.child y b)) to reach) }

pub via_child : (t : Tree) (x i : ℕ) → Reaches t (Cell x) (Leaf i) → ViaChild t x i
via_child t x i reach = via t x i (Cell x) (Leaf i) refl refl reach

none_from : (t : Tree) (i : ℕ) (r q : Reference) → r ≡ Nothing → q ≡ Leaf i → Reaches t r q → ⊥
none_from t i r q from to here = let same : Nothing ≡ Leaf i = sym from ∙ to in cc
none_from t i r q from to (below some_child reach) = cc

pub none_reached : (t : Tree) (i : ℕ) → Reaches t Nothing (Leaf i) → ⊥
none_reached t i reach = none_from t i Nothing (Leaf i) refl refl reach

leaf_only : (t : Tree) (i j : ℕ) (r q : Reference) → r ≡ Leaf i → q ≡ Leaf j → Reaches t r q → i ≡ j
leaf_only t i j r q from to here = let same : Leaf i ≡ Leaf j = sym from ∙ to in cc
leaf_only t i j r q from to (below some_child reach) = absurd cc

pub leaf_reaches : (t : Tree) (i j : ℕ) → Reaches t (Leaf i) (Leaf j) → i ≡ j
leaf_reaches t i j reach = leaf_only t i j (Leaf i) (Leaf j) refl refl reach

module _ (room : Room) (t : Tree) where
  -- the keys below a child come before those below a later one
  pub keys_rise : (x a b i j : ℕ) → IsSoundFrom room t (Cell x) → t.child x a ≢ Nothing → t.child x b ≢ Nothing → Reaches t (t.child x a) (Leaf i) → Reaches t (t.child x b) (Leaf j) → a < b → t.key i < t.key j
  keys_rise x a b i j sound some_a some_b at_i at_j lt =
      let one = below_child room t x a (Leaf i) sound some_a at_i in
      let two = below_child room t x b (Leaf j) sound some_b at_j in
      let high = one.high in
      let low = two.low in
      let rise = edges_rise (t.depth x) (t.prefix x) (a + 1) b (omega arith) in
      let last = span_last in
      omega arith

  pub record IsLast (r : Reference) (fuel : ℕ) : Type 0 where
    pub leaf : ℕ
    pub is : last_leaf t fuel r ≡ Some leaf
    pub reached : Reaches t r (Leaf leaf)
    pub most : (j : ℕ) → Reaches t r (Leaf j) → t.key j ≤ t.key leaf

  pub last_is : (fuel : ℕ) (r : Reference) → IsSoundFrom room t r → way_length ≤ fuel + depth_of t r → IsLast r fuel
  last_is zero r sound enough = let most = depth_most room t r (sound r here) in absurd (omega arith)
  last_is (suc fuel) Nothing sound enough = absurd (sound Nothing here)
  last_is (suc fuel) (Leaf i) sound enough = record { leaf = i; is = refl; reached = here; most = λ j reach. let same = leaf_reaches t i j reach in subst (λ k. t.key k ≤ t.key i) same (omega arith) }
  last_is (suc fuel) (Cell x) sound enough =
      let cell : IsCell room t x = sound (Cell x) here in
      elim (greatest t x 256) [
        | inl g ↦
            let c = g.byte in
            let under : IsUnder t x c (t.child x c) = cell.under c g.some_child in
            let deeper : t.depth x < depth_of t (t.child x c) = under.deeper in
            let inner = last_is fuel (t.child x c) (child_sound room t x c sound g.some_child) (omega arith) in
            record {
              leaf = inner.leaf;
              is = ap (last_leaf t fuel) g.is ∙ inner.is;
              reached = below g.some_child inner.reached;
              most = λ j reach.
                  let v = via_child t x j reach in
                  let byte : v.byte < 256 = (cell.under v.byte v.some_child).byte in
                  elim (cases_lt v.byte c) [
                    | inl less ↦ let lower = keys_rise x v.byte c j inner.leaf sound v.some_child g.some_child v.reach inner.reached less in omega arith
                    | inr rest ↦ elim (cases_eq v.byte c) [
                      | inl same ↦ inner.most j (subst (λ b. Reaches t (t.child x b) (Leaf j)) same v.reach)
                      | inr apart ↦ absurd (v.some_child (g.above v.byte (omega (arith, apart)) byte))
                    ]
                  ];
            }
        | inr none ↦ absurd (let two = cell.two in two.has_one (none.1 two.one (cell.under two.one two.has_one).byte))
      ]

  -- a leaf below the one or the other
  abbrev pub IsAmong : Reference → Reference → ℕ → Type 0
  IsAmong r other i = Reaches t r (Leaf i) ⊎ Reaches t other (Leaf i)

  pub record IsGreatest (r other : Reference) (key i : ℕ) : Type 0 where
    pub among : IsAmong r other i
    pub at_most : t.key i ≤ key
    pub most : (j : ℕ) → IsAmong r other j → t.key j ≤ key → t.key j ≤ t.key i

  abbrev pub IsBestOf : Reference → Reference → ℕ → Option ℕ → Type 0
  IsBestOf r other key None = (j : ℕ) → IsAmong r other j → t.key j ≤ key → ⊥
  IsBestOf r other key (Some i) = IsGreatest r other key i

  -- of fewer leaves, among which there is one for each that is left out
  narrows : (r other r' other' : Reference) (key : ℕ) (result : Option ℕ) → ((i : ℕ) → IsAmong r' other' i → IsAmong r other i)
      → ((j : ℕ) → IsAmong r other j → t.key j ≤ key → (m : ℕ) × IsAmong r' other' m × (t.key m ≤ key) × (t.key j ≤ t.key m)) → IsBestOf r' other' key result → IsBestOf r other key result
  narrows r other r' other' key None part covers best = λ j among at_most. let m = covers j among at_most in best m.0 m.1 m.2
  narrows r other r' other' key (Some i) part covers best = record {
    among = part i best.among;
    at_most = best.at_most;
    most = λ j among at_most. let m = covers j among at_most in let upper : t.key j ≤ t.key m.0 = m.3 in let lower = best.most m.0 m.1 m.2 in omega arith;
  }

  -- the other is nothing, or comes before, and is at most the key
  pub record IsBefore (r other : Reference) (key : ℕ) : Type 0 where
    pub sound : (other ≡ Nothing) ⊎ IsSoundFrom room t other
    pub at_most : (i : ℕ) → Reaches t other (Leaf i) → t.key i ≤ key
    pub before : (i j : ℕ) → Reaches t other (Leaf i) → Reaches t r (Leaf j) → t.key i < t.key j

  -- where all of the first are greater
  other_best : (r other : Reference) (key : ℕ) → IsBefore r other key → ((j : ℕ) → Reaches t r (Leaf j) → t.key j ≤ key → ⊥) → IsBestOf r other key (last_leaf t way_length other)
  other_best r other key is greater = elim is.sound [
    | inl none ↦ subst (λ o. IsBestOf r o key (last_leaf t way_length o)) (sym none) (λ j among at_most. elim among [ inl at_r ↦ greater j at_r at_most | inr at_none ↦ none_reached t j at_none ])
    | inr sound ↦
        let last = last_is way_length other sound (omega arith) in
        subst (IsBestOf r other key) (sym last.is) (record {
          among = inr last.reached;
          at_most = is.at_most last.leaf last.reached;
          most = λ j among at_most. elim among [ inl at_r ↦ absurd (greater j at_r at_most) | inr at_other ↦ last.most j at_other ];
        })
  ]

  -- what a floor says of a reference, with so much fuel
  abbrev IsExactBelow : ℕ → ℕ → Type 0
  IsExactBelow fuel key = (r other : Reference) → (r ≡ Nothing) ⊎ IsSoundFrom room t r → way_length ≤ fuel + depth_of t r → IsBefore r other key → IsBestOf r other key (floor_in t fuel r key other)

  abbrev inner_floor : ℕ → ℕ → ℕ → Reference → Option ℕ
  inner_floor fuel x key other = floor_in t fuel (t.child x (byte_at (t.depth x) key)) key (child_or (child_below t x (byte_at (t.depth x) key)) other)

  -- a child, or nothing
  child_fine : (x b : ℕ) → IsSoundFrom room t (Cell x) → (t.child x b ≡ Nothing) ⊎ IsSoundFrom room t (t.child x b)
  child_fine x b sound = elim (is_nothing (t.child x b)) [ inl none ↦ inl none | inr some_child ↦ inr (child_sound room t x b sound some_child) ]

  child_deep : (x b fuel : ℕ) → IsSoundFrom room t (Cell x) → way_length ≤ suc fuel + t.depth x → way_length ≤ fuel + depth_of t (t.child x b)
  child_deep x b fuel sound enough = elim (is_nothing (t.child x b)) [
    | inl none ↦ let lt : t.depth x < key_bytes = (sound (Cell x) here).depth in let deep : depth_of t (t.child x b) ≡ key_bytes = ap (depth_of t) none in omega arith
    | inr some_child ↦ let deeper : t.depth x < depth_of t (t.child x b) = ((sound (Cell x) here).under b some_child).deeper in omega arith
  ]

  some_below : (x b i : ℕ) → Reaches t (t.child x b) (Leaf i) → t.child x b ≢ Nothing
  some_below x b i reach e = none_reached t i (subst (λ r. Reaches t r (Leaf i)) e reach)

  record StepTo (x b : ℕ) (other : Reference) (key : ℕ) (next : Reference) : Type 0 where
    pub to_before : IsBefore (t.child x b) next key
    pub to_narrow : (result : Option ℕ) → IsBestOf (t.child x b) next key result → IsBestOf (Cell x) other key result

  -- one cell down: the child under the key's byte, and the child below that one if there is one, else the other
  pub record IsStep (x b : ℕ) (other : Reference) (key : ℕ) : Type 0 where
    pub before : IsBefore (t.child x b) (child_or (child_below t x b) other) key
    pub narrow : (result : Option ℕ) → IsBestOf (t.child x b) (child_or (child_below t x b) other) key result → IsBestOf (Cell x) other key result

  pub cell_step : (x : ℕ) (other : Reference) (key : ℕ) → IsSoundFrom room t (Cell x) → IsBefore (Cell x) other key → t.prefix x ≤ key → key < t.prefix x + span (t.depth x) → IsStep x (byte_at (t.depth x) key) other key
  cell_step x other key sound is least most =
      let cell : IsCell room t x = sound (Cell x) here in
      let b = byte_at (t.depth x) key in
      let byte : ByteOf (t.depth x) (t.prefix x) key b = byte_of (t.depth x) (t.prefix x) key (first_bytes (t.depth x) (t.prefix x)) cell.depth cell.zeros least most in
      let byte_low = byte.low in
      let byte_high = byte.high in
      let last = span_last in
      let too_high : (c j : ℕ) → Reaches t (t.child x c) (Leaf j) → b < c → t.key j ≤ key → ⊥ = λ c j at_c more at_most.
      let part = below_child room t x c (Leaf j) sound (some_below x c j at_c) at_c in
      let low = part.low in
      let rise = edges_rise (t.depth x) (t.prefix x) (b + 1) c (omega arith) in
      omega arith in
      let lower : (c j : ℕ) → Reaches t (t.child x c) (Leaf j) → c < b → t.key j ≤ key = λ c j at_c less.
      let part = below_child room t x c (Leaf j) sound (some_below x c j at_c) at_c in
      let high = part.high in
      let rise = edges_rise (t.depth x) (t.prefix x) (c + 1) b (omega arith) in
      omega arith in
      let step : StepTo x b other key (child_or (child_below t x b) other) = elim (greatest t x b) [
        | inr none ↦
            let before : IsBefore (t.child x b) other key = record {
              sound = is.sound;
              at_most = is.at_most;
              before = λ i j at_other at_child. is.before i j at_other (below (some_below x b j at_child) at_child);
            } in
            let as_other : child_or (child_below t x b) other ≡ other = ap (λ o. child_or o other) none.0 in
            subst (λ o. StepTo x b other key o) (sym as_other)
            (record {
              to_before = before;
              to_narrow = λ result. narrows (Cell x) other (t.child x b) other key result
                  (λ i among. elim among [ inl at_child ↦ inl (below (some_below x b i at_child) at_child) | inr at_other ↦ inr at_other ])
                  (λ j among at_most. elim among [
                    | inl at_cell ↦
                        let v = via_child t x j at_cell in
                        elim (cases_lt v.byte b) [
                          | inl less ↦ absurd (v.some_child (none.1 v.byte less))
                          | inr rest ↦ elim (cases_eq v.byte b) [
                            | inl same ↦ (j, inl (subst (λ c. Reaches t (t.child x c) (Leaf j)) same v.reach), at_most, (let m : t.key j ≤ t.key j = omega arith in m))
                            | inr apart ↦ absurd (too_high v.byte j v.reach (omega (arith, apart)) at_most)
                          ]
                        ]
                    | inr at_other ↦ (j, inr at_other, at_most, (let m : t.key j ≤ t.key j = omega arith in m))
                  ]);
            })
        | inl g ↦
            let c = g.byte in
            let less : c < b = g.below in
            let next = t.child x c in
            let next_sound = child_sound room t x c sound g.some_child in
            let leaf = last_is way_length next next_sound (omega arith) in
            let leaf_low = lower c leaf.leaf leaf.reached less in
            let before : IsBefore (t.child x b) next key = record {
              sound = inr next_sound;
              at_most = λ i at_next. lower c i at_next less;
              before = λ i j at_next at_child. keys_rise x c b i j sound g.some_child (some_below x b j at_child) at_next at_child less;
            } in
            let as_next : child_or (child_below t x b) other ≡ next = ap (λ r. child_or r other) g.is ∙ or_some next other g.some_child in
            subst (λ o. StepTo x b other key o) (sym as_next)
            (record {
              to_before = before;
              to_narrow = λ result. narrows (Cell x) other (t.child x b) next key result
                  (λ i among. elim among [ inl at_child ↦ inl (below (some_below x b i at_child) at_child) | inr at_next ↦ inl (below g.some_child at_next) ])
                  (λ j among at_most. elim among [
                    | inl at_cell ↦
                        let v = via_child t x j at_cell in
                        elim (cases_lt b v.byte) [
                          | inl more ↦ absurd (too_high v.byte j v.reach more at_most)
                          | inr rest ↦ elim (cases_eq v.byte b) [
                            | inl same ↦ (j, inl (subst (λ a. Reaches t (t.child x a) (Leaf j)) same v.reach), at_most, (let m : t.key j ≤ t.key j = omega arith in m))
                            | inr apart ↦ elim (cases_lt c v.byte) [
                              | inl more ↦ absurd (v.some_child (g.above v.byte more (omega (arith, apart))))
                              | inr at_most_c ↦ elim (cases_eq v.byte c) [
                                | inl same ↦ (j, inr (subst (λ a. Reaches t (t.child x a) (Leaf j)) same v.reach), at_most, (let m : t.key j ≤ t.key j = omega arith in m))
                                | inr other_byte ↦
                                    let rises = keys_rise x v.byte c j leaf.leaf sound v.some_child g.some_child v.reach leaf.reached (omega (arith, other_byte)) in
                                    (leaf.leaf, inr leaf.reached, leaf_low, (let m : t.key j ≤ t.key leaf.leaf = omega arith in m))
                              ]
                            ]
                          ]
                        ]
                    | inr at_other ↦ let rises = is.before j leaf.leaf at_other (below g.some_child leaf.reached) in (leaf.leaf, inr leaf.reached, leaf_low, (let m : t.key j ≤ t.key leaf.leaf = omega arith in m))
                  ]);
            })
      ] in
      record { before = step.to_before; narrow = step.to_narrow }

  cell_inner : (fuel x : ℕ) (other : Reference) (key : ℕ) → IsSoundFrom room t (Cell x) → way_length ≤ suc fuel + t.depth x → IsBefore (Cell x) other key → t.prefix x ≤ key → key < t.prefix x + span (t.depth x)
      → IsExactBelow fuel key → IsBestOf (Cell x) other key (inner_floor fuel x key other)
  cell_inner fuel x other key sound enough is least most inner =
      let b = byte_at (t.depth x) key in
      let step = cell_step x other key sound is least most in
      step.narrow (inner_floor fuel x key other) (inner (t.child x b) (child_or (child_below t x b) other) (child_fine x b sound) (child_deep x b fuel sound enough) step.before)

  cell_best : (fuel x : ℕ) (other : Reference) (key : ℕ) → IsSoundFrom room t (Cell x) → way_length ≤ suc fuel + t.depth x → IsBefore (Cell x) other key → IsExactBelow fuel key
      → IsBestOf (Cell x) other key (floor_in t (suc fuel) (Cell x) key other)
  cell_best fuel x other key sound enough is inner =
      elim (ltb key (t.prefix x)) as (λ a. ltb key (t.prefix x) ≡ a
      → IsBestOf (Cell x) other key (cond a (last_leaf t way_length other) (cond (leb (t.prefix x + span (t.depth x)) key) (last_leaf t way_length (Cell x)) (inner_floor fuel x key other)))) [
        | true ↦ λ test. let lower = ltb-true _ _ test in
            other_best (Cell x) other key is (λ j at_cell at_most. let inside = within room t sound at_cell in let low = inside.least in omega arith)
        | false ↦ λ test. let least = ltb-false _ _ test in
            elim (leb (t.prefix x + span (t.depth x)) key) as (λ a. leb (t.prefix x + span (t.depth x)) key ≡ a
            → IsBestOf (Cell x) other key (cond a (last_leaf t way_length (Cell x)) (inner_floor fuel x key other))) [
              | true ↦ λ high. let past = leb-true _ _ high in
                  let leaf = last_is way_length (Cell x) sound (omega arith) in
                  let inside = within room t sound leaf.reached in
                  let most = inside.most in
                  let last = span_last in
                  subst (IsBestOf (Cell x) other key) (sym leaf.is) (record {
                    among = inl leaf.reached;
                    at_most = omega arith;
                    most = λ j among at_most. elim among [ inl at_cell ↦ leaf.most j at_cell | inr at_other ↦ let before = is.before j leaf.leaf at_other leaf.reached in omega arith ];
                  })
              | false ↦ λ high. let below_end = leb-false _ _ high in cell_inner fuel x other key sound enough is (omega arith) (omega arith) inner
            ] refl
      ] refl

  pub floor_best : (fuel : ℕ) (r other : Reference) (key : ℕ) → (r ≡ Nothing) ⊎ IsSoundFrom room t r → way_length ≤ fuel + depth_of t r → IsBefore r other key → IsBestOf r other key (floor_in t fuel r key other)
  floor_best zero r other key sound enough is = elim sound [
    | inl none ↦ let deep : depth_of t r ≡ key_bytes = ap (depth_of t) none in absurd (omega arith)
    | inr sound ↦ let most = depth_most room t r (sound r here) in absurd (omega arith)
  ]
  floor_best (suc fuel) Nothing other key sound enough is = other_best Nothing other key is (λ j at_none at_most. none_reached t j at_none)
  floor_best (suc fuel) (Leaf i) other key sound enough is =
      elim (leb (t.key i) key) as (λ b. leb (t.key i) key ≡ b → IsBestOf (Leaf i) other key (cond b (Some i) (last_leaf t way_length other))) [
        | true ↦ λ test. let at_most = leb-true _ _ test in record {
          among = inl here;
          at_most = at_most;
          most = λ j among lower. elim among [ inl at_leaf ↦ subst (λ k. t.key k ≤ t.key i) (leaf_reaches t i j at_leaf) (omega arith) | inr at_other ↦ let before = is.before j i at_other here in omega arith ];
        }
        | false ↦ λ test. let above = leb-false _ _ test in other_best (Leaf i) other key is (λ j at_leaf at_most. let same = leaf_reaches t i j at_leaf in let low : t.key i ≤ key = subst (λ k. t.key k ≤ key) (sym same) at_most in omega arith)
      ] refl
  floor_best (suc fuel) (Cell x) other key fine enough is = elim fine [
    | inl none ↦ absurd cc
    | inr sound ↦ cell_best fuel x other key sound enough is (λ r o f e b. floor_best fuel r o key f e b)
  ]

-- the best of all leaves is the floor
pub is_floor : (room : Room) (t : Tree) (key : ℕ) → IsTree room t → (result : Option ℕ) → IsBestOf room t t.root Nothing key result → IsFloorOf (layer_in t) key (landed t result)
is_floor room t key tree None best = inr (
  refl,
  λ other at_most. elim (some_or_none (layer_in t other)) [
    | inl leads ↦ let has = has_key room t other leads.0 leads.1 in absurd (best has.0 (inl has.1.reached) (let same : t.key has.0 ≡ other = has.1.key_is in omega arith))
    | inr none ↦ none
  ],
)
is_floor room t key tree (Some i) best = elim best.among [
  | inr at_none ↦ absurd (none_reached t i at_none)
  | inl reached ↦ inl (record {
    best = t.key i;
    at_most = best.at_most;
    leads = led room t tree i reached;
    greatest = λ other at_most above. elim (some_or_none (layer_in t other)) [
      | inl leads ↦
          let has = has_key room t other leads.0 leads.1 in
          let same : t.key has.0 ≡ other = has.1.key_is in
          let most = best.most has.0 (inl has.1.reached) (omega arith) in
          absurd (omega arith)
      | inr none ↦ none
    ];
  })
]

pub nothing_before : (room : Room) (t : Tree) (key : ℕ) → IsBefore room t t.root Nothing key
nothing_before room t key = record {
  sound = inl refl;
  at_most = λ i at_none. absurd (none_reached t i at_none);
  before = λ i j at_none at_r. absurd (none_reached t i at_none);
}

pub floor_is_exact : FloorIsExact
floor_is_exact room t tree key =
    is_floor room t key tree (floor_in t way_length t.root key Nothing) (floor_best room t way_length t.root Nothing key (inr tree) (omega arith) (nothing_before room t key))
