-- The marks that a walk over a tree sets, step by step.
use Rattle.std.proofs.Common.{◌≡◌, ◌≢◌, ℕ, ◌+◌, ◌-◌, ◌*◌, ◌^◌, ◌<◌, ◌≤◌, ◌&&◌, ◌⊎◌, true, false, cond, ltb, leb, List, length, length-set, length-drop, slice_set, drop, inl, inr, refl, sym, subst, ap, ◌∙◌, arith}
use Rattle.std.proofs.lemmas.Bool.{cases_eq, and_parts, leb-true, ltb-true, false≢true}
use Rattle.std.proofs.lemmas.List.{get_or-set_other, get_or-drop, ext_get_or}
use Rattle.pm_words.specs.declared.layout.Layout.{Layout}
use Rattle.pm_words.specs.Locations.{Location, Mark, Cached, Durable, HasLocation, leaf_count, row_words, durable_address, address_of, at}
use Rattle.pm_words.specs.Rows.{durable_row}
use Rattle.pm_words.specs.Codes.{leaf_kind}
use Rattle.pm_words.proofs.Apart.{addresses_apart, address_fits}
use Rattle.radix_nodes.specs.declared.cell.Cell as cells
use Rattle.radix_nodes.specs.Keys.{key_bytes}
use Rattle.radix_nodes.specs.Cells.{children, children_of, words_of}
use Rattle.tree_law.specs.Trees.{Reference, Nothing, Leaf, Cell, Tree, Reaches, here, below, IsLeaf, IsCell, IsSound, IsSoundFrom, depth_of}
use Rattle.tree_law.specs.Words.{kind_of, number_of, reference_of, tree_of, cell_in}
use Rattle.tree_law.specs.Marking.{kind_in, number_in}
use Rattle.tree_law.proofs.Reach.{child_sound}
use Rattle.tree_law.proofs.SwitchLaw.{cell_goes}
use Rattle.tree_floor.proofs.FloorExact.{IsReference, is_none, is_leaf, is_cell, reference, reference_some, to_leaf, to_cell}
use Rattle.tree_row.specs.Rows.{image_word, layer_words}
use Rattle.tree_row.specs.RowMarks.{has_mark, row_marks, IsNoMark}
use Rattle.tree_row.proofs.RowLaw.{rows_alike}
use Rattle.tree_row.proofs.MarkLaw.{mark_is_set}
use Rattle.tree_marks.specs.Marked.{row_tree, row_room, part_with, IsBesideMarks, MarksFrom, AreMarked}

one_zero : (n : ℕ) → n ≡ 1 → n ≡ 0 → ⊥
one_zero n one none = omega arith

-- a reference is that of the mark of its kind and number
pub part_is : (x : ℕ) → part_with (kind_of x) (number_of x) ≡ reference_of x
part_is x = ap reference_of (let whole : kind_of x * 2 ^ 16 + number_of x ≡ x = omega arith in whole)

-- from nothing and from a leaf one comes nowhere else
nothing_only : (t : Tree) (r q : Reference) → r ≡ Nothing → Reaches t r q → q ≡ Nothing
nothing_only t r q is here = is
nothing_only t r q is (below some_child way) = cc

pub leaf_only : (t : Tree) (i : ℕ) (r q : Reference) → r ≡ Leaf i → Reaches t r q → q ≡ Leaf i
leaf_only t i r q is here = is
leaf_only t i r q is (below some_child way) = cc

module _ (l : Layout) where
  -- a set mark is that of a leaf or a cell
  some_part : (words : List ℕ) (kind number : ℕ) → row_marks l words kind number ≡ 1 → part_with kind number ≢ Nothing
  some_part words kind number = elim (has_mark l kind number) as (λ a. has_mark l kind number ≡ a → cond a (at l words (Mark kind number)) 0 ≡ 1 → part_with kind number ≢ Nothing) [
    | true ↦ λ e one.
        let parts = and_parts (leb 1 kind && leb kind 5) (ltb number (leaf_count l)) e in
        let kinds = and_parts (leb 1 kind) (leb kind 5) parts.0 in
        let low : 1 ≤ kind = leb-true _ _ kinds.0 in
        reference_some (kind * 2 ^ 16 + number) (λ none. omega arith)
    | false ↦ λ e one. absurd (one_zero 0 one refl)
  ] refl

  pub beside : (p : Location) → HasLocation l p → IsNoMark p → IsBesideMarks l (address_of l p)
  beside p has none kind number has_mark e = subst IsNoMark (addresses_apart l p (Mark kind number) has has_mark e) none

  pub cell_has_mark : (x : ℕ) → (row_room l).is_cell x ≡ true → HasLocation l (Mark (kind_of x) (number_of x))
  cell_has_mark x e =
      let parts = and_parts (leb 2 (kind_of x) && leb (kind_of x) 5) (ltb (number_of x) (leaf_count l)) e in
      let kinds = and_parts (leb 2 (kind_of x)) (leb (kind_of x) 5) parts.0 in
      let low : 2 ≤ kind_of x = leb-true _ _ kinds.0 in
      (let one : 1 ≤ kind_of x = omega arith in one, leb-true _ _ kinds.1, ltb-true _ _ parts.1)

  -- the layer is what it was
  pub layer_stays : (words : List ℕ) (from : Reference) (after : List ℕ) → MarksFrom l words from after → layer_words l after Cached ≡ layer_words l words Cached
  layer_stays words from after m = rows_alike l words after Cached (λ p has. m.others (address_of l (Cached (image_word p))) (beside (Cached (image_word p)) has tt))

  pub durable_stays : (words : List ℕ) (from : Reference) (after : List ℕ) → MarksFrom l words from after → layer_words l after Durable ≡ layer_words l words Durable
  durable_stays words from after m = rows_alike l words after Durable (λ p has. m.others (address_of l (Durable (image_word p))) (beside (Durable (image_word p)) has tt))

  tree_stays : (words : List ℕ) (from : Reference) (after : List ℕ) → MarksFrom l words from after → row_tree l after ≡ row_tree l words
  tree_stays words from after m = ap tree_of (layer_stays words from after m)

  -- so a crash leaves what it would have left before
  durable_beside : (k : ℕ) → IsBesideMarks l (durable_address l 0 + k)
  durable_beside k kind number has e =
      let fits : (kind - 1) * leaf_count l + number < leaf_count l * 5 = address_fits l (Mark kind number) has in
      omega arith

  pub crash_same : (words : List ℕ) (from : Reference) (after : List ℕ) → MarksFrom l words from after → durable_row l after ≡ durable_row l words
  crash_same words from after m =
      let first = durable_address l 0 in
      let size = m.size in
      let one = length-drop first after in
      let other = length-drop first words in
      ext_get_or 0 (drop first after) (drop first words) (one ∙ ap (λ n. n - first) size ∙ sym other)
      (λ k lt. get_or-drop first after k 0 ∙ m.others (first + k) (durable_beside k) ∙ sym (get_or-drop first words k 0))

  -- a mark that is set stays so
  stays_one : (words : List ℕ) (from : Reference) (after : List ℕ) → MarksFrom l words from after → (kind number : ℕ) → row_marks l words kind number ≡ 1 → row_marks l after kind number ≡ 1
  stays_one words from after m kind number one = elim (m.marks kind number) [ inl same ↦ same ∙ one | inr set ↦ set.0 ]

  -- nothing is done, and one mark is set
  pub none_set : (words : List ℕ) (from : Reference) → MarksFrom l words from words
  none_set words from = record { size = refl; others = λ a apart. refl; marks = λ kind number. inl refl }

  pub one_set : (words : List ℕ) (kind number : ℕ) (from : Reference) → length words ≡ row_words l → HasLocation l (Mark kind number) → part_with kind number ≡ from → MarksFrom l words from (slice_set words (address_of l (Mark kind number)) 1)
  one_set words kind number from whole has is =
      let after = slice_set words (address_of l (Mark kind number)) 1 in
      let set = mark_is_set l words kind number 1 whole has in
      record {
        size = length-set words (address_of l (Mark kind number)) 1;
        others = λ a apart. get_or-set_other words (address_of l (Mark kind number)) a 1 0 (apart kind number has);
        marks = λ k i. elim (cases_eq k kind) [
          | inl same_kind ↦ elim (cases_eq i number) [
            | inl same ↦ let marked_there : part_with k i ≡ part_with kind number = (λ e. part_with (same_kind e) (same e)) in inr ((λ e. row_marks l after (same_kind e) (same e)) ∙ set.here, subst (Reaches (row_tree l words) from) (sym (marked_there ∙ is)) here)
            | inr other ↦ inl (set.others k i (λ _ e. other e))
          ]
          | inr other ↦ inl (set.others k i (λ e _. other e))
        ];
      }

  -- the marks below the next child are set, too
  pub next_set : (words now after : List ℕ) (x b child : ℕ) → MarksFrom l words (Cell x) now → (row_tree l words).child x b ≡ reference_of child → MarksFrom l now (reference_of child) after → MarksFrom l words (Cell x) after
  next_set words now after x b child so_far is more = record {
    size = more.size ∙ so_far.size;
    others = λ a apart. more.others a apart ∙ so_far.others a apart;
    marks = λ kind number. elim (more.marks kind number) [
      | inl same ↦ elim (so_far.marks kind number) [ inl was ↦ inl (same ∙ was) | inr one ↦ inr (same ∙ one.0, one.1) ]
      | inr one ↦
          let t = row_tree l words in
          let way : Reaches t (reference_of child) (part_with kind number) = subst (λ s. Reaches s (reference_of child) (part_with kind number)) (tree_stays words (Cell x) now so_far) one.1 in
          let some_child : t.child x b ≢ Nothing = λ none. some_part after kind number one.0 (nothing_only t (reference_of child) (part_with kind number) (sym is ∙ none) way) in
          inr (one.0, below some_child (subst (λ r. Reaches t r (part_with kind number)) (sym is) way))
    ];
  }

-- what the first so many children of a cell lead to has its marks
abbrev pub ArePassed : Layout → List ℕ → ℕ → List ℕ → ℕ → Type 0
ArePassed l words x now byte = (b : ℕ) → b < byte → (row_tree l words).child x b ≢ Nothing → (q : Reference) →
    Reaches (row_tree l words) ((row_tree l words).child x b) q → row_marks l now (kind_in q) (number_in q) ≡ 1

-- What is known in the middle of a cell: its own mark is set, and those below its first children.
pub record IsPassing (l : Layout) (words : List ℕ) (x : ℕ) (now : List ℕ) (byte : ℕ) : Type 0 where
  pub marks : MarksFrom l words (Cell x) now
  pub own : row_marks l now (kind_of x) (number_of x) ≡ 1
  pub passed : IsSoundFrom (row_room l) (row_tree l words) (Cell x) → ArePassed l words x now byte

module _ (l : Layout) (words : List ℕ) (x : ℕ) where
  pub begins_passing : length words ≡ row_words l → (row_room l).is_cell x ≡ true → reference_of x ≡ Cell x → IsPassing l words x (slice_set words (address_of l (Mark (kind_of x) (number_of x))) 1) 0
  begins_passing whole is_cell_here is = record {
    marks = one_set l words (kind_of x) (number_of x) (Cell x) whole (cell_has_mark l x is_cell_here) (part_is x ∙ is);
    own = (mark_is_set l words (kind_of x) (number_of x) 1 whole (cell_has_mark l x is_cell_here)).here;
    passed = λ sound b lt. absurd (omega arith);
  }

  pub goes_passing : (now after : List ℕ) (byte child : ℕ) → IsPassing l words x now byte → (row_tree l words).child x byte ≡ reference_of child → MarksFrom l now (reference_of child) after
      → ((row_tree l words).depth x + 1 ≤ depth_of (row_tree l now) (reference_of child) → IsSoundFrom (row_room l) (row_tree l now) (reference_of child) → AreMarked l now (reference_of child) after)
      → IsPassing l words x after (byte + 1)
  goes_passing now after byte child so_far is more all = record {
    marks = next_set l words now after x byte child so_far.marks is more;
    own = stays_one l now (reference_of child) after more (kind_of x) (number_of x) so_far.own;
    passed = λ sound b lt some_child q way. elim (cases_eq b byte) [
      | inr apart ↦ stays_one l now (reference_of child) after more (kind_in q) (number_in q) (so_far.passed sound b (omega (arith, apart)) some_child q way)
      | inl same ↦
          let t = row_tree l words in
          let there : t.child x b ≡ reference_of child = ap (t.child x) same ∙ is in
          let some_here : t.child x byte ≢ Nothing = λ none. some_child (ap (t.child x) same ∙ none) in
          let tree = sym (tree_stays l words (Cell x) now so_far.marks) in
          let deep : t.depth x + 1 ≤ depth_of t (reference_of child) = subst (λ r. t.depth x + 1 ≤ depth_of t r) is (let deeper = ((sound (Cell x) here).under byte some_here).deeper in omega arith) in
          let fine : IsSoundFrom (row_room l) t (reference_of child) = subst (IsSoundFrom (row_room l) t) is (child_sound (row_room l) t x byte sound some_here) in
          all (subst (λ s. t.depth x + 1 ≤ depth_of s (reference_of child)) tree deep) (subst (λ s. IsSoundFrom (row_room l) s (reference_of child)) tree fine)
          q (subst (λ s. Reaches s (reference_of child) q) tree (subst (λ r. Reaches t r q) there way))
    ];
  }

  pub ends_passing : (now : List ℕ) (byte : ℕ) → 256 ≤ byte → IsPassing l words x now byte → IsSoundFrom (row_room l) (row_tree l words) (Cell x) → AreMarked l words (Cell x) now
  ends_passing now byte all passing sound q way = elim (cell_goes (row_tree l words) x q way) [
    | inl own ↦ subst (λ r. row_marks l now (kind_in r) (number_in r) ≡ 1) (sym own) passing.own
    | inr on ↦ passing.passed sound on.byte (let small = ((sound (Cell x) here).under on.byte on.some_child).byte in omega arith) on.some_child q on.reach
  ]

-- what the reference of a cell of the layout leads to
pub to_own_cell : (l : Layout) (x : ℕ) → kind_of x ≢ leaf_kind → (row_room l).is_cell x ≡ true → reference_of x ≡ Cell x
to_own_cell l x other cell = to_cell x (λ none. let has = cell_has_mark l x cell in let low : 1 ≤ kind_of x = has.0 in omega arith) other

module _ (l : Layout) (words : List ℕ) (x : ℕ) where
  -- where something is sound there is such a leaf, or such a cell, and the cell is as deep as it has to be
  pub no_leaf : kind_of x ≡ leaf_kind → leaf_count l ≤ number_of x → IsSoundFrom (row_room l) (row_tree l words) (reference_of x) → ⊥
  no_leaf one past sound =
      let leaf : IsLeaf (row_room l) (row_tree l words) (number_of x) = subst (IsSoundFrom (row_room l) (row_tree l words)) (to_leaf x one) sound (Leaf (number_of x)) here in
      let within : number_of x < leaf_count l = leaf.number in
      omega arith

  pub no_cell : kind_of x ≢ leaf_kind → (row_room l).is_cell x ≡ false → IsSoundFrom (row_room l) (row_tree l words) (reference_of x) → ⊥
  no_cell other none sound = go (reference x)
    where
      go : IsReference x → ⊥
      go (is_none zero_reference is) = subst (IsSound (row_room l) (row_tree l words)) is (sound (reference_of x) here)
      go (is_leaf some_reference one is) = other one
      go (is_cell some_reference kind is) =
          let cell : IsCell (row_room l) (row_tree l words) x = subst (IsSoundFrom (row_room l) (row_tree l words)) is sound (Cell x) here in
          false≢true (sym none ∙ cell.number)

  pub not_deep : (depth least : ℕ) → kind_of x ≢ leaf_kind → (row_room l).is_cell x ≡ true → depth ≡ (row_tree l words).depth x → (depth < least) ⊎ (key_bytes ≤ depth) → least ≤ depth_of (row_tree l words) (reference_of x)
      → IsSoundFrom (row_room l) (row_tree l words) (reference_of x) → ⊥
  not_deep depth least other is_cell_here depth_is wrong enough sound =
      let t = row_tree l words in
      let is = to_own_cell l x other is_cell_here in
      let cell : IsCell (row_room l) t x = subst (IsSoundFrom (row_room l) t) is sound (Cell x) here in
      let small : t.depth x < key_bytes = cell.depth in
      let deep : least ≤ t.depth x = subst (λ r. least ≤ depth_of t r) is enough in
      elim wrong [ inl less ↦ omega arith | inr past ↦ omega arith ]

  -- the leaf's mark is set
  pub leaf_set : length words ≡ row_words l → kind_of x ≡ leaf_kind → number_of x < leaf_count l → MarksFrom l words (reference_of x) (slice_set words (address_of l (Mark 1 (number_of x))) 1)
  leaf_set whole one within = one_set l words 1 (number_of x) (reference_of x) whole (omega arith, omega arith, within) (ap (λ k. part_with k (number_of x)) (sym one) ∙ part_is x)

  pub leaf_marked : length words ≡ row_words l → kind_of x ≡ leaf_kind → number_of x < leaf_count l → AreMarked l words (reference_of x) (slice_set words (address_of l (Mark 1 (number_of x))) 1)
  leaf_marked whole one within q way =
      let after = slice_set words (address_of l (Mark 1 (number_of x))) 1 in
      let is = leaf_only (row_tree l words) (number_of x) (reference_of x) q (to_leaf x one) way in
      let set = mark_is_set l words 1 (number_of x) 1 whole (omega arith, omega arith, within) in
      subst (λ r. row_marks l after (kind_in r) (number_in r) ≡ 1) (sym is) set.here

  -- a child by the words of its cell
  pub child_is : (cell : cells.Cell) → cell.kind ≡ kind_of x → ((o : ℕ) → words_of cell o ≡ cell_in (layer_words l words Cached) x o) → (b child : ℕ) → child ≡ children_of cell b → (row_tree l words).child x b ≡ reference_of child
  child_is cell kind same b child is = ap reference_of (sym (is ∙ (λ e. children (kind e) (λ o. same o e) b)))
