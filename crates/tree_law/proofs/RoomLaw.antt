-- Each cell has a leaf of its own: the last one below its second greatest child.
use Rattle.std.proofs.Common.{◌≡◌, ◌≢◌, ℕ, zero, suc, ◌-◌, ◌<◌, ◌≤◌, ◌⊎◌, Option, Some, None, inl, inr, refl, sym, subst, ap, ◌∙◌, arith}
use Rattle.std.proofs.lemmas.Bool.{cases_eq, cases_lt}
use Rattle.tree_law.specs.Trees.{Reference, Nothing, Leaf, Cell, Tree, Reaches, here, below, IsReached, Room, IsCell, IsSound, IsSoundFrom, IsTree, depth_of, byte_at}
use Rattle.tree_law.specs.Floors.{child_below, last_leaf}
use Rattle.tree_law.specs.Rooms.{LeavesAreFew, CellsAreFew, ReachedOnce, RootIsNoChild}
use Rattle.tree_law.proofs.Reach.{within, byte_below, child_sound}
use Rattle.tree_law.proofs.TreeLaw.{led, leaves_are_apart}
use Rattle.tree_law.proofs.FloorLaw.{greatest, last_is, keys_rise}
use Rattle.tree_law.proofs.Avoiding.{join}
use Rattle.tree_law.proofs.SwitchLaw.{cell_goes}
use Rattle.tree_law.specs.Trees.{way_length}

abbrev picked : Reference → ℕ → ℕ → ℕ
picked Nothing byte other = other
picked (Leaf i) byte other = byte
picked (Cell x) byte other = byte

picked_some : (r : Reference) (byte other : ℕ) → r ≢ Nothing → picked r byte other ≡ byte
picked_some Nothing byte other some_child = absurd (some_child refl)
picked_some (Leaf i) byte other some_child = refl
picked_some (Cell x) byte other some_child = refl

-- the greatest byte with a child, of those below this one
abbrev top_byte : Tree → ℕ → ℕ → ℕ
top_byte t x zero = 0
top_byte t x (suc b) = picked (t.child x b) b (top_byte t x b)

top_is : (t : Tree) (x b c : ℕ) → c < b → t.child x c ≢ Nothing → ((d : ℕ) → c < d → d < b → t.child x d ≡ Nothing) → top_byte t x b ≡ c
top_is t x zero c lt some_child above = absurd (omega arith)
top_is t x (suc b) c lt some_child above = elim (cases_eq c b) [
  | inl same ↦ picked_some (t.child x b) b (top_byte t x b) (λ e. some_child (ap (t.child x) same ∙ e)) ∙ sym same
  | inr apart ↦ ap (λ r. picked r b (top_byte t x b)) (above b (omega (arith, apart)) (omega arith)) ∙ top_is t x b c (omega (arith, apart)) some_child (λ d past less. above d past (omega arith))
]

abbrev leaf_or : Option ℕ → ℕ
leaf_or None = 0
leaf_or (Some i) = i

-- a leaf of the cell's own
abbrev own_leaf : Tree → ℕ → ℕ
own_leaf t x = leaf_or (last_leaf t way_length (child_below t x (top_byte t x 256)))

module _ (room : Room) (t : Tree) (tree : IsTree room t) where
  -- what is known of it
  record IsOwn (x : ℕ) : Type 0 where
    pub second : ℕ
    pub top : ℕ
    pub less : second < top
    pub has_second : t.child x second ≢ Nothing
    pub has_top : t.child x top ≢ Nothing
    pub reached : Reaches t (t.child x second) (Leaf (own_leaf t x))
    pub most : (j : ℕ) → Reaches t (t.child x second) (Leaf j) → t.key j ≤ t.key (own_leaf t x)

  from_reached : (r : Reference) → IsReached t r → IsSoundFrom room t r
  from_reached r at_r q reach = tree q (join t at_r reach)

  own : (x : ℕ) → IsReached t (Cell x) → IsOwn x
  own x at_x =
      let cell : IsCell room t x = tree (Cell x) at_x in
      let two = cell.two in
      elim (greatest t x 256) [
        | inr none ↦ absurd (two.has_one (none.1 two.one (cell.under two.one two.has_one).byte))
        | inl g ↦
            let is_top : top_byte t x 256 ≡ g.byte = top_is t x 256 g.byte g.below g.some_child g.above in
            -- the one or the other child is below the greatest
            let lower : (c : ℕ) → t.child x c ≢ Nothing → c ≢ g.byte → c < g.byte = λ c some_child apart. elim (cases_lt g.byte c) [
              | inl past ↦ absurd (some_child (g.above c past (cell.under c some_child).byte))
              | inr rest ↦ omega (arith, apart)
            ] in
            let no_less : ((c : ℕ) → c < g.byte → t.child x c ≡ Nothing) → ⊥ = λ none. elim (cases_eq two.one g.byte) [
              | inr apart ↦ two.has_one (none two.one (lower two.one two.has_one apart))
              | inl same ↦ two.has_two (none two.two (lower two.two two.has_two (λ e. two.apart (same ∙ sym e))))
            ] in
            elim (greatest t x g.byte) [
              | inr none ↦ absurd (no_less none.1)
              | inl s ↦
                  let last = last_is room t way_length (t.child x s.byte) (child_sound room t x s.byte (from_reached (Cell x) at_x) s.some_child) (omega arith) in
                  let is : own_leaf t x ≡ last.leaf = ap (λ b. leaf_or (last_leaf t way_length (child_below t x b))) is_top ∙ ap (λ r. leaf_or (last_leaf t way_length r)) s.is ∙ ap leaf_or last.is in
                  record {
                    second = s.byte;
                    top = g.byte;
                    less = s.below;
                    has_second = s.some_child;
                    has_top = g.some_child;
                    reached = subst (λ i. Reaches t (t.child x s.byte) (Leaf i)) (sym is) last.reached;
                    most = λ j reach. subst (λ i. t.key j ≤ t.key i) (sym is) (last.most j reach);
                  }
            ]
      ]

  own_reached : (x : ℕ) → IsReached t (Cell x) → IsReached t (Leaf (own_leaf t x))
  own_reached x at_x = let o = own x at_x in join t at_x (below o.has_second o.reached)

  -- of two cells with a leaf in common the one is below the other
  comparable : (i x y : ℕ) {r q : Reference} → q ≡ Cell x → IsSoundFrom room t r → Reaches t r q → Reaches t r (Cell y) → Reaches t (Cell x) (Leaf i) → Reaches t (Cell y) (Leaf i)
      → Reaches t (Cell x) (Cell y) ⊎ Reaches t (Cell y) (Cell x)
  comparable i x y is sound here to_y from_x from_y = inl (subst (λ r. Reaches t r (Cell y)) is to_y)
  comparable i x y {q = q} is sound (below {x = z} {b = b} some_child to_x) to_y from_x from_y = elim (cell_goes t z (Cell y) to_y) [
    | inl same ↦ inr (subst (λ r. Reaches t r (Cell x)) (sym same) (below some_child (subst (Reaches t (t.child z b)) is to_x)))
    | inr on ↦
        let byte_x = byte_below room t z b (Leaf i) sound some_child (join t (subst (Reaches t (t.child z b)) is to_x) from_x) in
        let byte_y = byte_below room t z on.byte (Leaf i) sound on.some_child (join t on.reach from_y) in
        let same : on.byte ≡ b = sym byte_y ∙ byte_x in
        comparable i x y is (child_sound room t z b sound some_child) to_x (subst (λ c. Reaches t (t.child z c) (Cell y)) same on.reach) from_x from_y
  ]

  -- below a cell no other has its leaf
  not_below : (x y : ℕ) → IsReached t (Cell x) → IsReached t (Cell y) → own_leaf t x ≡ own_leaf t y → x ≢ y → Reaches t (Cell x) (Cell y) → ⊥
  not_below x y at_x at_y same apart x_to_y = elim (cell_goes t x (Cell y) x_to_y) [
    | inl is ↦ apart (let number : x ≡ y = cc in number)
    | inr on ↦
        let a = own x at_x in
        let b = own y at_y in
        let sound_x = from_reached (Cell x) at_x in
        let sound_y = from_reached (Cell y) at_y in
        let leaf = own_leaf t y in
        let byte_a : byte_at (t.depth x) (t.key leaf) ≡ a.second = byte_below room t x a.second (Leaf leaf) sound_x a.has_second (subst (λ i. Reaches t (t.child x a.second) (Leaf i)) same a.reached) in
        let byte_on : byte_at (t.depth x) (t.key leaf) ≡ on.byte = byte_below room t x on.byte (Leaf leaf) sound_x on.some_child (join t on.reach (below b.has_second b.reached)) in
        let to_y : Reaches t (t.child x a.second) (Cell y) = subst (λ c. Reaches t (t.child x c) (Cell y)) (sym byte_on ∙ byte_a) on.reach in
        -- the greatest child of the lower cell has a greater key
        let last = last_is room t way_length (t.child y b.top) (child_sound room t y b.top sound_y b.has_top) (omega arith) in
        let greater : t.key leaf < t.key last.leaf = keys_rise room t y b.second b.top leaf last.leaf sound_y b.has_second b.has_top b.reached last.reached b.less in
        let most : t.key last.leaf ≤ t.key (own_leaf t x) = a.most last.leaf (join t to_y (below b.has_top last.reached)) in
        let one : t.key (own_leaf t x) ≡ t.key leaf = ap t.key same in
        omega arith
  ]

  own_apart : (x y : ℕ) → IsReached t (Cell x) → IsReached t (Cell y) → own_leaf t x ≡ own_leaf t y → x ≡ y
  own_apart x y at_x at_y same = elim (cases_eq x y) [
    | inl is ↦ is
    | inr apart ↦
        let a = own x at_x in
        let b = own y at_y in
        let from_x : Reaches t (Cell x) (Leaf (own_leaf t x)) = below a.has_second a.reached in
        let from_y : Reaches t (Cell y) (Leaf (own_leaf t x)) = subst (λ i. Reaches t (Cell y) (Leaf i)) (sym same) (below b.has_second b.reached) in
        absurd (elim (comparable (own_leaf t x) x y refl tree at_x at_y from_x from_y) [
          | inl down ↦ not_below x y at_x at_y same apart down
          | inr up ↦ not_below y x at_y at_x (sym same) (λ e. apart (sym e)) up
        ])
  ]

pub leaves_are_few : LeavesAreFew
leaves_are_few room t most tree few count leaf reached apart =
    few count (λ i. t.key (leaf i))
    (λ i lt none. let leads = led room t tree (leaf i) (reached i lt) in let wrong : None ≡ Some (t.word (leaf i) - 1) = sym none ∙ leads in cc)
    (λ i j lt lt' same. apart i j lt lt' (leaves_are_apart room t tree (leaf i) (leaf j) (reached i lt) (reached j lt') same))

pub cells_are_few : CellsAreFew
cells_are_few room t most tree few count cell reached apart =
    leaves_are_few room t most tree few count (λ i. own_leaf t (cell i)) (λ i lt. own_reached room t tree (cell i) (reached i lt))
    (λ i j lt lt' same. apart i j lt lt' (own_apart room t tree (cell i) (cell j) (reached i lt) (reached j lt') same))

-- two cells with a child in common
pub reached_once : ReachedOnce
reached_once room t tree x y a b at_x at_y some_child same =
    let some_other : t.child y b ≢ Nothing = λ e. some_child (same ∙ e) in
    let child = t.child x a in
    let sound : IsSoundFrom room t child = λ q reach. tree q (join t at_x (below some_child reach)) in
    let last = last_is room t way_length child sound (omega arith) in
    let from_x : Reaches t (Cell x) (Leaf last.leaf) = below some_child last.reached in
    let at_b : Reaches t (t.child y b) (Leaf last.leaf) = subst (λ r. Reaches t r (Leaf last.leaf)) same last.reached in
    let from_y : Reaches t (Cell y) (Leaf last.leaf) = below some_other at_b in
    let sound_x : IsSoundFrom room t (Cell x) = λ q reach. tree q (join t at_x reach) in
    let sound_y : IsSoundFrom room t (Cell y) = λ q reach. tree q (join t at_y reach) in
    let one : x ≡ y = elim (comparable room t tree last.leaf x y refl tree at_x at_y from_x from_y) [
      | inl down ↦ elim (cell_goes t x (Cell y) down) [
        | inl is ↦ (let number : x ≡ y = cc in number)
        | inr on ↦ absurd (lower x y a b on.byte last.leaf sound_x some_child on.some_child same on.reach last.reached at_b some_other sound_y)
      ]
      | inr up ↦ elim (cell_goes t y (Cell x) up) [
        | inl is ↦ (let number : x ≡ y = cc in number)
        | inr on ↦ absurd (lower y x b a on.byte last.leaf sound_y some_other on.some_child (sym same) on.reach at_b last.reached some_child sound_x)
      ]
    ] in
    (one, sym (byte_below room t x a (Leaf last.leaf) sound_x some_child last.reached) ∙ ap (λ z. byte_at (t.depth z) (t.key last.leaf)) one ∙ byte_below room t y b (Leaf last.leaf) sound_y some_other at_b)
  where
    -- the child of a lower cell is deeper than that of the upper one
    lower : (x y a b e i : ℕ) → IsSoundFrom room t (Cell x) → t.child x a ≢ Nothing → t.child x e ≢ Nothing → t.child x a ≡ t.child y b → Reaches t (t.child x e) (Cell y) → Reaches t (t.child x a) (Leaf i)
        → Reaches t (t.child y b) (Leaf i) → t.child y b ≢ Nothing → IsSoundFrom room t (Cell y) → ⊥
    lower x y a b e i sound_x some_a some_e same to_y at_a at_b some_b sound_y =
        let byte_a = byte_below room t x a (Leaf i) sound_x some_a at_a in
        let byte_e = byte_below room t x e (Leaf i) sound_x some_e (join t to_y (below some_b at_b)) in
        let to_y' : Reaches t (t.child x a) (Cell y) = subst (λ c. Reaches t (t.child x c) (Cell y)) (sym byte_e ∙ byte_a) to_y in
        let inside = within room t (child_sound room t x a sound_x some_a) to_y' in
        let deep : depth_of t (t.child x a) ≤ t.depth y = inside.deep in
        let deeper : t.depth y < depth_of t (t.child y b) = ((sound_y (Cell y) here).under b some_b).deeper in
        let one : depth_of t (t.child x a) ≡ depth_of t (t.child y b) = ap (depth_of t) same in
        omega arith

pub root_is_no_child : RootIsNoChild
root_is_no_child room t tree x b at_x is =
    let cell : IsCell room t x = tree (Cell x) at_x in
    let some_child : t.child x b ≢ Nothing = λ e. subst (IsSound room t) (sym is ∙ e) (tree t.root here) in
    let inside = within room t tree at_x in
    let deep : depth_of t t.root ≤ t.depth x = inside.deep in
    let deeper : t.depth x < depth_of t (t.child x b) = (cell.under b some_child).deeper in
    let one : depth_of t (t.child x b) ≡ depth_of t t.root = ap (depth_of t) is in
    omega arith
