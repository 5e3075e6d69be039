-- A floor as a walk.
use Rattle.std.proofs.Common.{◌≡◌, ◌≢◌, ℕ, zero, suc, ◌+◌, ◌-◌, ◌*◌, ◌<◌, ◌≤◌, ◌==◌, ◌||◌, ◌⊎◌, Bool, true, false, cond, ltb, leb, Option, Some, None, inl, inr, refl, sym, subst, ap, ap₂, ◌∙◌, arith}
use Rattle.std.specs.Prelude.{IsSomeAnd}
use Rattle.std.proofs.lemmas.Bool.{cases_eq, cases_lt, ltb-true, ltb-false, leb-true, leb-false, lt-leb, ne_eqb, eqb-false}
use Rattle.std.proofs.Common.{le-ltb}
use Rattle.layer_map.specs.Layers.{IsFloorOf}
use Rattle.tree_law.specs.Trees.{Reference, Nothing, Leaf, Cell, Tree, Reaches, here, below, Room, IsLeaf, IsCell, IsSoundFrom, IsTree, span, byte_at, depth_of, layer_in}
use Rattle.tree_law.specs.Floors.{child_or, child_below}
use Rattle.tree_law.specs.FloorWalks.{FloorWalk, Walked, On, At, starts, node_told, to_last, goes_back, back, least_of, goes_down, in_cell, walked, walks, walk_left, WalkedBelow, WalksEnd, view_at, walked_on, walk_answer, WalkIsExact}
use Rattle.tree_law.proofs.Spans.{span_last}
use Rattle.tree_law.proofs.Reach.{is_nothing, within, child_sound}
use Rattle.tree_law.proofs.FloorLaw.{greatest, last_is, via_child, none_reached, leaf_reaches, keys_rise, IsBestOf, IsBefore, cell_step, is_floor, nothing_before}
use Rattle.tree_law.specs.Trees.{way_length}
use Rattle.radix_nodes.specs.Keys.{key_bytes}

-- Whatever it is told.

pub node_small : (nodes word : ℕ) → 0 < nodes → node_told nodes word < nodes
node_small nodes word some_nodes = elim (word == 0) as (λ a. (word == 0) ≡ a → cond (a || ltb nodes word) 0 (word - 1) < nodes) [
  | true ↦ λ e. some_nodes
  | false ↦ λ e. elim (ltb nodes word) as (λ b. ltb nodes word ≡ b → cond b 0 (word - 1) < nodes) [
    | true ↦ λ f. some_nodes
    | false ↦ λ f. let least = ltb-false _ _ f in let some_word = eqb-false word 0 e in omega (arith, some_word)
  ] refl
] refl

back_below : (nodes least other_least : ℕ) (at other : Reference) (last : Bool) → 0 < nodes → WalkedBelow nodes (walk_left (record { at = at; other = other; least = least; other_least = other_least; last = last }))
    (back (record { at = at; other = other; least = least; other_least = other_least; last = last }))
back_below nodes least other_least at other true some_nodes = some_nodes
back_below nodes least other_least at Nothing false some_nodes = some_nodes
back_below nodes least other_least at (Leaf i) false some_nodes = omega arith
back_below nodes least other_least at (Cell x) false some_nodes = omega arith

pub walks_end : WalksEnd
walks_end nodes key f v some_nodes = go f.at f.other f.least f.other_least f.last
  where
    go : (at other : Reference) (least other_least : ℕ) (last : Bool) → WalkedBelow nodes (walk_left (record { at = at; other = other; least = least; other_least = other_least; last = last }))
        (walks nodes key (record { at = at; other = other; least = least; other_least = other_least; last = last }) v)
    go Nothing other least other_least last = back_below nodes least other_least Nothing other last some_nodes
    go (Leaf i) other least other_least true = node_small nodes v.word some_nodes
    go (Leaf i) other least other_least false =
        elim (leb v.key key) as (λ b. WalkedBelow nodes (way_length + 1 + (way_length - least)) (cond b (At (node_told nodes v.word)) (back (record { at = Leaf i; other = other; least = least; other_least = other_least; last = false })))) [
          | true ↦ node_small nodes v.word some_nodes
          | false ↦ back_below nodes least other_least (Leaf i) other false some_nodes
        ]
    go (Cell x) other least other_least last =
        elim (ltb v.depth least) as (λ a. ltb v.depth least ≡ a → WalkedBelow nodes (walk_left (record { at = Cell x; other = other; least = least; other_least = other_least; last = last }))
        (cond (a || leb key_bytes v.depth) (At 0) (in_cell key (record { at = Cell x; other = other; least = least; other_least = other_least; last = last }) v))) [
          | true ↦ λ e. some_nodes
          | false ↦ λ e. elim (leb key_bytes v.depth) as (λ a. leb key_bytes v.depth ≡ a → WalkedBelow nodes (walk_left (record { at = Cell x; other = other; least = least; other_least = other_least; last = last }))
              (cond a (At 0) (in_cell key (record { at = Cell x; other = other; least = least; other_least = other_least; last = last }) v))) [
                | true ↦ λ f. some_nodes
                | false ↦ λ f. in_go x other least other_least last (ltb-false _ _ e) (leb-false _ _ f)
              ] refl
        ] refl
      where
        in_go : (x : ℕ) (other : Reference) (least other_least : ℕ) (last : Bool) → least ≤ v.depth → v.depth < key_bytes → WalkedBelow nodes (walk_left (record { at = Cell x; other = other; least = least; other_least = other_least; last = last }))
            (in_cell key (record { at = Cell x; other = other; least = least; other_least = other_least; last = last }) v)
        in_go x other least other_least true low high = omega arith
        in_go x other least other_least false low high =
            elim (ltb key v.prefix) as (λ a. WalkedBelow nodes (way_length + 1 + (way_length - least)) (cond a (back (record { at = Cell x; other = other; least = least; other_least = other_least; last = false }))
            (cond (leb (v.prefix + span v.depth) key) (On (to_last v.below (v.depth + 1))) (On (goes_down (record { at = Cell x; other = other; least = least; other_least = other_least; last = false }) v))))) [
              | true ↦ back_below nodes least other_least (Cell x) other false some_nodes
              | false ↦ elim (leb (v.prefix + span v.depth) key) as (λ a. WalkedBelow nodes (way_length + 1 + (way_length - least))
                  (cond a (On (to_last v.below (v.depth + 1))) (On (goes_down (record { at = Cell x; other = other; least = least; other_least = other_least; last = false }) v)))) [
                    | true ↦ (let less : 0 + (way_length - (v.depth + 1)) < way_length + 1 + (way_length - least) = omega arith in less)
                    | false ↦ (let less : way_length + 1 + (way_length - (v.depth + 1)) < way_length + 1 + (way_length - least) = omega arith in less)
                  ]
            ]

-- Of a tree that stays.
module _ (room : Room) (t : Tree) (tree : IsTree room t) (key : ℕ) where
  -- the greatest leaf of the last child is that of the cell
  record LastChild (x : ℕ) : Type 0 where
    pub byte : ℕ
    pub some_child : t.child x byte ≢ Nothing
    pub is : child_below t x 256 ≡ t.child x byte
    pub last : (i : ℕ) → Reaches t (t.child x byte) (Leaf i) → ((j : ℕ) → Reaches t (t.child x byte) (Leaf j) → t.key j ≤ t.key i) → (j : ℕ) → Reaches t (Cell x) (Leaf j) → t.key j ≤ t.key i

  last_child : (x : ℕ) → IsSoundFrom room t (Cell x) → LastChild x
  last_child x sound =
      let cell : IsCell room t x = sound (Cell x) here in
      elim (greatest t x 256) [
        | inr none ↦ absurd (let two = cell.two in two.has_one (none.1 two.one (cell.under two.one two.has_one).byte))
        | inl g ↦ record {
          byte = g.byte;
          some_child = g.some_child;
          is = g.is;
          last = λ i at_i most j reach.
              let v = via_child t x j reach in
              elim (cases_lt v.byte g.byte) [
                | inl less ↦ let lower = keys_rise room t x v.byte g.byte j i sound v.some_child g.some_child v.reach at_i less in omega arith
                | inr rest ↦ elim (cases_eq v.byte g.byte) [
                  | inl same ↦ most j (subst (λ b. Reaches t (t.child x b) (Leaf j)) same v.reach)
                  | inr apart ↦ absurd (v.some_child (g.above v.byte (omega (arith, apart)) (cell.under v.byte v.some_child).byte))
                ]
              ];
        }
      ]

  abbrev pub IsFinal : Option ℕ → Type 0
  IsFinal result = IsBestOf room t t.root Nothing key result

  -- what it knows
  pub record Seeks (at other : Reference) (least other_least : ℕ) : Type 0 where
    pub fine : (at ≡ Nothing) ⊎ IsSoundFrom room t at
    pub before : IsBefore room t at other key
    pub best : (result : Option ℕ) → IsBestOf room t at other key result → IsFinal result
    pub deep : least ≤ depth_of t at
    pub other_deep : other_least ≤ depth_of t other

  pub record Lasts (at : Reference) (least : ℕ) : Type 0 where
    pub sound : IsSoundFrom room t at
    pub last : (i : ℕ) → Reaches t at (Leaf i) → ((j : ℕ) → Reaches t at (Leaf j) → t.key j ≤ t.key i) → IsFinal (Some i)
    pub deep : least ≤ depth_of t at

  abbrev pub Knows : Reference → Reference → ℕ → ℕ → Bool → Type 0
  Knows at other least other_least true = Lasts at least
  Knows at other least other_least false = Seeks at other least other_least

  abbrev pub KnowsOn : Walked → Type 0
  KnowsOn (On f) = Knows f.at f.other f.least f.other_least f.last
  KnowsOn (At node) = IsFloorOf (layer_in t) key node

  abbrev pub walk : Reference → Reference → ℕ → ℕ → Bool → FloorWalk
  walk at other least other_least last = record { at = at; other = other; least = least; other_least = other_least; last = last }

  -- a leaf that is the best
  pub ends : (i : ℕ) → IsFinal (Some i) → IsLeaf room t i → IsFloorOf (layer_in t) key (node_told room.nodes (t.word i))
  ends i final leaf =
      let word = t.word i in
      let most : word ≤ room.nodes = leaf.node in
      let told : node_told room.nodes word ≡ word - 1 = ap₂ (λ a b. cond (a || b) 0 (word - 1)) (ne_eqb word 0 leaf.some_node) (le-ltb room.nodes word most) in
      subst (IsFloorOf (layer_in t) key) (sym told) (is_floor room t key tree (Some i) final)

  -- it goes back where all here are greater
  pub goes : (at other : Reference) (least other_least : ℕ) → Seeks at other least other_least → ((j : ℕ) → Reaches t at (Leaf j) → t.key j ≤ key → ⊥) → KnowsOn (back (walk at other least other_least false))
  goes at other least other_least knows greater = go other refl
    where
      lasts : IsSoundFrom room t other → Lasts other other_least
      lasts sound = record {
        sound = sound;
        last = λ i at_i most. knows.best (Some i) (record {
          among = inr at_i;
          at_most = knows.before.at_most i at_i;
          most = λ j among at_most. elim among [ inl at_r ↦ absurd (greater j at_r at_most) | inr at_other ↦ most j at_other ];
        });
        deep = knows.other_deep;
      }

      sound_other : (other ≡ Nothing → ⊥) → IsSoundFrom room t other
      sound_other some_other = elim knows.before.sound [ inl none ↦ absurd (some_other none) | inr sound ↦ sound ]

      go : (r : Reference) → r ≡ other → KnowsOn (goes_back (walk at other least other_least false) r)
      go Nothing is = is_floor room t key tree None (knows.best None (λ j among at_most. elim among [ inl at_r ↦ greater j at_r at_most | inr at_none ↦ none_reached t j (subst (λ q. Reaches t q (Leaf j)) (sym is) at_none) ]))
      go (Leaf i) is = subst (λ q. Lasts q other_least) (sym is) (lasts (sound_other (λ e. let wrong : Leaf i ≡ Nothing = is ∙ e in cc)))
      go (Cell x) is = subst (λ q. Lasts q other_least) (sym is) (lasts (sound_other (λ e. let wrong : Cell x ≡ Nothing = is ∙ e in cc)))

  -- the last child of a cell whose last leaf is wanted
  pub goes_last : (x : ℕ) → IsSoundFrom room t (Cell x) → ((i : ℕ) → Reaches t (Cell x) (Leaf i) → ((j : ℕ) → Reaches t (Cell x) (Leaf j) → t.key j ≤ t.key i) → IsFinal (Some i)) → Lasts (child_below t x 256) (t.depth x + 1)
  goes_last x sound last =
      let c = last_child x sound in
      let deeper = ((sound (Cell x) here).under c.byte c.some_child).deeper in
      subst (λ r. Lasts r (t.depth x + 1)) (sym c.is) (record {
        sound = child_sound room t x c.byte sound c.some_child;
        last = λ i at_i most. last i (below c.some_child at_i) (c.last i at_i most);
        deep = (let less : t.depth x + 1 ≤ depth_of t (t.child x c.byte) = omega arith in less);
      })

  -- how deep the other has to be
  other_deep : (x b : ℕ) (other : Reference) (other_least : ℕ) → IsSoundFrom room t (Cell x) → other_least ≤ depth_of t other
      → least_of (child_below t x b) (t.depth x) other_least ≤ depth_of t (child_or (child_below t x b) other)
  other_deep x b other other_least sound deep = elim (greatest t x b) [
    | inr none ↦ subst (λ r. least_of r (t.depth x) other_least ≤ depth_of t (child_or r other)) (sym none.0) deep
    | inl g ↦ subst (λ r. least_of r (t.depth x) other_least ≤ depth_of t (child_or r other)) (sym g.is) (some_deep (t.child x g.byte) g.some_child (let deeper = ((sound (Cell x) here).under g.byte g.some_child).deeper in omega arith))
  ]
    where
      some_deep : (r : Reference) → r ≢ Nothing → t.depth x + 1 ≤ depth_of t r → least_of r (t.depth x) other_least ≤ depth_of t (child_or r other)
      some_deep Nothing some_child deep = absurd (some_child refl)
      some_deep (Leaf i) some_child deep = deep
      some_deep (Cell y) some_child deep = deep

  child_deep : (x b : ℕ) → IsSoundFrom room t (Cell x) → t.depth x + 1 ≤ depth_of t (t.child x b)
  child_deep x b sound = elim (is_nothing (t.child x b)) [
    | inl none ↦ let lt : t.depth x < key_bytes = (sound (Cell x) here).depth in let deep : depth_of t (t.child x b) ≡ key_bytes = ap (depth_of t) none in omega arith
    | inr some_child ↦ let deeper = ((sound (Cell x) here).under b some_child).deeper in omega arith
  ]

  -- by whether the key is past the cell
  abbrev past_cell : ℕ → Reference → ℕ → ℕ → Bool → Walked
  past_cell x other least other_least a =
      cond a (On (to_last (child_below t x (cond a 256 (byte_at (t.depth x) key))) (t.depth x + 1)))
      (On (goes_down (walk (Cell x) other least other_least false) (record {
        key = 0;
        word = 0;
        depth = t.depth x;
        prefix = t.prefix x;
        child = t.child x (cond a 256 (byte_at (t.depth x) key));
        below = child_below t x (cond a 256 (byte_at (t.depth x) key));
      })))

  pub down_knows : (x : ℕ) (other : Reference) (least other_least : ℕ) → IsSoundFrom room t (Cell x) → Seeks (Cell x) other least other_least → t.prefix x ≤ key → key < t.prefix x + span (t.depth x)
      → Seeks (t.child x (byte_at (t.depth x) key)) (child_or (child_below t x (byte_at (t.depth x) key)) other) (t.depth x + 1) (least_of (child_below t x (byte_at (t.depth x) key)) (t.depth x) other_least)
  down_knows x other least other_least sound knows from under =
      let b = byte_at (t.depth x) key in
      let step = cell_step room t x other key sound knows.before from under in
      record {
        fine = elim (is_nothing (t.child x b)) [ inl none ↦ inl none | inr some_child ↦ inr (child_sound room t x b sound some_child) ];
        before = step.before;
        best = λ result best. knows.best result (step.narrow result best);
        deep = child_deep x b sound;
        other_deep = other_deep x b other other_least sound knows.other_deep;
      }

  cell_seeks : (x : ℕ) (other : Reference) (least other_least : ℕ) → IsSoundFrom room t (Cell x) → Seeks (Cell x) other least other_least
      → KnowsOn (in_cell key (walk (Cell x) other least other_least false) (view_at t key (walk (Cell x) other least other_least false) (Cell x)))
  cell_seeks x other least other_least sound knows =
      elim (ltb key (t.prefix x)) as (λ a. ltb key (t.prefix x) ≡ a → KnowsOn (cond a (back (walk (Cell x) other least other_least false)) (past_cell x other least other_least (leb (t.prefix x + span (t.depth x)) key)))) [
        | true ↦ λ test. let lower = ltb-true _ _ test in
            goes (Cell x) other least other_least knows (λ j at_cell at_most. let inside = within room t sound at_cell in let low = inside.least in omega arith)
        | false ↦ λ test. let from = ltb-false _ _ test in
            elim (leb (t.prefix x + span (t.depth x)) key) as (λ a. leb (t.prefix x + span (t.depth x)) key ≡ a → KnowsOn (past_cell x other least other_least a)) [
              | true ↦ λ high. let past = leb-true _ _ high in
                  goes_last x sound (λ i at_i most. knows.best (Some i) (record {
                    among = inl at_i;
                    at_most = (let inside = within room t sound at_i in let top = inside.most in let one = span_last in let low : t.key i ≤ key = omega arith in low);
                    most = λ j among at_most. elim among [ inl at_cell ↦ most j at_cell | inr at_other ↦ let lower = knows.before.before j i at_other at_i in omega arith ];
                  }))
              | false ↦ λ high. let under = leb-false _ _ high in down_knows x other least other_least sound knows (omega arith) (omega arith)
            ] refl
      ] refl

  -- a cell of a tree in order is as deep as it is to be
  in_order : (x least : ℕ) (last : Bool) (other : Reference) (other_least : ℕ) → t.depth x < key_bytes → least ≤ t.depth x
      → KnowsOn (in_cell key (walk (Cell x) other least other_least last) (view_at t key (walk (Cell x) other least other_least last) (Cell x)))
      → KnowsOn (walked room.nodes key (walk (Cell x) other least other_least last) (view_at t key (walk (Cell x) other least other_least last) (Cell x)) (Cell x))
  in_order x least last other other_least deep low known =
      let f = walk (Cell x) other least other_least last in
      subst (λ a. KnowsOn (cond (a || leb key_bytes (t.depth x)) (At 0) (in_cell key f (view_at t key f (Cell x))))) (sym (le-ltb (t.depth x) least low))
      (subst (λ a. KnowsOn (cond a (At 0) (in_cell key f (view_at t key f (Cell x))))) (sym (lt-leb key_bytes (t.depth x) (omega arith))) known)

  step : (at other : Reference) (least other_least : ℕ) (last : Bool) → Knows at other least other_least last
      → KnowsOn (walks room.nodes key (walk at other least other_least last) (view_at t key (walk at other least other_least last) at))
  step Nothing other least other_least true knows = absurd (knows.sound Nothing here)
  step Nothing other least other_least false knows = goes Nothing other least other_least knows (λ j at_none at_most. none_reached t j at_none)
  step (Leaf i) other least other_least true knows =
      ends i (knows.last i here (λ j at_leaf. subst (λ k. t.key k ≤ t.key i) (leaf_reaches t i j at_leaf) (let same : t.key i ≤ t.key i = omega arith in same))) (knows.sound (Leaf i) here)
  step (Leaf i) other least other_least false knows =
      elim (leb (t.key i) key) as (λ b. leb (t.key i) key ≡ b → KnowsOn (cond b (At (node_told room.nodes (t.word i))) (back (walk (Leaf i) other least other_least false)))) [
        | true ↦ λ test. let at_most = leb-true _ _ test in
            ends i (knows.best (Some i) (record {
              among = inl here;
              at_most = at_most;
              most = λ j among low. elim among [ inl at_leaf ↦ subst (λ k. t.key k ≤ t.key i) (leaf_reaches t i j at_leaf) (let same : t.key i ≤ t.key i = omega arith in same) | inr at_other ↦ let lower = knows.before.before j i at_other here in omega arith ];
            })) (elim knows.fine [ inl none ↦ absurd (let wrong : Leaf i ≡ Nothing = none in cc) | inr sound ↦ sound (Leaf i) here ])
        | false ↦ λ test. let above = leb-false _ _ test in
            goes (Leaf i) other least other_least knows (λ j at_leaf at_most. let same = leaf_reaches t i j at_leaf in let low : t.key i ≤ key = subst (λ k. t.key k ≤ key) (sym same) at_most in omega arith)
      ] refl
  step (Cell x) other least other_least true knows =
      in_order x least true other other_least (knows.sound (Cell x) here).depth knows.deep (goes_last x knows.sound knows.last)
  step (Cell x) other least other_least false knows =
      let sound : IsSoundFrom room t (Cell x) = elim knows.fine [ inl none ↦ absurd (let wrong : Cell x ≡ Nothing = none in cc) | inr sound ↦ sound ] in
      in_order x least false other other_least (sound (Cell x) here).depth knows.deep (cell_seeks x other least other_least sound knows)

  goes_on : (more left : ℕ) → ((next : FloorWalk) → Knows next.at next.other next.least next.other_least next.last → walk_left next < left → IsSomeAnd (walk_answer more room t key next) (IsFloorOf (layer_in t) key)) → (w : Walked)
      → KnowsOn w → WalkedBelow room.nodes left w → IsSomeAnd (walked_on w (walk_answer more room t key)) (IsFloorOf (layer_in t) key)
  goes_on more left inner (On next) known fewer = inner next known fewer
  goes_on more left inner (At node) known fewer = known

  answers : (more : ℕ) (f : FloorWalk) → 0 < room.nodes → Knows f.at f.other f.least f.other_least f.last → walk_left f < more → IsSomeAnd (walk_answer more room t key f) (IsFloorOf (layer_in t) key)
  answers zero f some_nodes knows less = absurd (omega arith)
  answers (suc more) f some_nodes knows less =
      goes_on more (walk_left f) (λ next known fewer. answers more next some_nodes known (omega arith)) (walks room.nodes key f (view_at t key f f.at))
      (step f.at f.other f.least f.other_least f.last knows) (walks_end room.nodes key f (view_at t key f f.at) some_nodes)

pub walk_is_exact : WalkIsExact
walk_is_exact room t tree key =
    let last = last_is room t way_length t.root tree (omega arith) in
    let leaf : IsLeaf room t last.leaf = tree (Leaf last.leaf) last.reached in
    let some_word : t.word last.leaf ≢ 0 = leaf.some_node in
    let most : t.word last.leaf ≤ room.nodes = leaf.node in
    answers room t tree key (2 * (way_length + 1)) (starts t.root) (omega (arith, some_word)) (record { fine = inr tree; before = nothing_before room t key; best = λ result best. best; deep = omega arith; other_deep = omega arith }) (omega arith)
