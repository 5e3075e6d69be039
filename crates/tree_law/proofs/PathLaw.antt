-- What the way of a key says of the place to which it comes.
use Rattle.std.proofs.Common.{◌≡◌, ◌≢◌, ℕ, ◌+◌, ◌*◌, ◌<◌, inl, inr, refl, sym, subst, ap, ap₂, ◌∙◌, arith}
use Rattle.std.proofs.lemmas.Bool.{cases_lt}
use Rattle.tree_law.specs.Trees.{Nothing, Leaf, Cell, Tree, Reaches, here, Room, IsCell, IsSound, IsSoundFrom, IsTree, IsUnder, low, depth_of, span, first_bytes, byte_at}
use Rattle.tree_law.specs.Switches.{Place, Root, Entry, reference_at, IsPlace, FitsAt}
use Rattle.tree_law.specs.Paths.{Comes, begins, goes_on, PartsAt, WayAdds, WayPairs, WayLeads}
use Rattle.tree_law.proofs.Spans.{first_next, first_of_prefix, fewer_of_prefix, fewer_alike, byte_small}
use Rattle.tree_law.proofs.Reach.{byte_below, depth_most}
use Rattle.tree_law.proofs.Avoiding.{join}
use Rattle.tree_law.proofs.SwitchLaw.{cell_goes, below_old}
use Rattle.radix_nodes.specs.Keys.{key_bytes}

some_cell : (x : ℕ) → Cell x ≢ Nothing
some_cell x e = cc

-- the place is of the tree
pub comes_place : (t : Tree) (key : ℕ) (place : Place) → Comes t key place → IsPlace t place
comes_place t key place begins = tt
comes_place t key place (goes_on {place = p} {x = x} before is same) =
    below_old t p (Cell x) (comes_place t key p before) (λ e. some_cell x (sym is ∙ e)) (subst (λ r. Reaches t r (Cell x)) (sym is) here)

-- what the key has of its last cell
pub record IsOn (t : Tree) (key x b : ℕ) : Type 0 where
  pub same : first_bytes (t.depth x) key ≡ first_bytes (t.depth x) (t.prefix x)
  pub byte : b ≡ byte_at (t.depth x) key

comes_on : (t : Tree) (key x b : ℕ) (place : Place) → place ≡ Entry x b → Comes t key place → IsOn t key x b
comes_on t key x b place at_entry begins = absurd (cc)
comes_on t key x b place at_entry (goes_on {x = y} before is same) =
    let cell : y ≡ x = cc in
    let byte : byte_at (t.depth y) key ≡ b = cc in
    record { same = subst (λ z. first_bytes (t.depth z) key ≡ first_bytes (t.depth z) (t.prefix z)) cell same; byte = sym byte ∙ ap (λ z. byte_at (t.depth z) key) cell }

pub on_entry : (t : Tree) (key x b : ℕ) → Comes t key (Entry x b) → IsOn t key x b
on_entry t key x b comes = comes_on t key x b (Entry x b) refl comes

-- a key with the way's bytes is under its last cell
next_bytes : (room : Room) (t : Tree) (key x b : ℕ) → IsTree room t → Comes t key (Entry x b) → first_bytes (t.depth x + 1) key ≡ 256 * first_bytes (t.depth x) (t.prefix x) + b
next_bytes room t key x b tree comes =
    let cell : IsCell room t x = tree (Cell x) (comes_place t key (Entry x b) comes) in
    let on = on_entry t key x b comes in
    first_next (t.depth x) key cell.depth ∙ ap₂ (λ f c. 256 * f + c) on.same (sym on.byte)

pub way_adds : WayAdds
way_adds room t key leaf x b tree comes none sound key_is =
    let reached = comes_place t key (Entry x b) comes in
    let cell : IsCell room t x = tree (Cell x) reached in
    let on = on_entry t key x b comes in
    record {
      reached = reached;
      none = none;
      sound = sound;
      under = record {
        byte = subst (λ c. c < 256) (sym on.byte) (byte_small (t.depth x) key);
        bytes = ap (first_bytes (t.depth x + 1)) key_is ∙ next_bytes room t key x b tree comes;
        deeper = cell.depth;
      };
    }

pub way_pairs : WayPairs
way_pairs room t place key depth pair leaf tree comes some_old parts less sound key_is is =
    let old = reference_at t place in
    let in_tree = comes_place t key place comes in
    let old_sound : IsSound room t old = tree old (below_old t place old in_tree some_old here) in
    let most = depth_most room t old old_sound in
    let small : depth < key_bytes = omega arith in
    let prefix_bytes : first_bytes (t.depth pair) (t.prefix pair) ≡ first_bytes depth key = ap₂ (λ d p. first_bytes d p) is.depth_is is.prefix_is ∙ first_of_prefix depth (first_bytes depth key) in
    let next : (n : ℕ) → first_bytes (t.depth pair + 1) n ≡ 256 * first_bytes depth n + byte_at depth n = λ n. ap (λ d. first_bytes (d + 1) n) is.depth_is ∙ first_next depth n small in
    let leaf_small : depth < key_bytes = small in
    record {
      of_tree = in_tree;
      some_old = some_old;
      sound = sound;
      number = is.number;
      depth = subst (λ d. d < key_bytes) (sym is.depth_is) small;
      zeros = ap₂ (λ f d. f * span d) prefix_bytes is.depth_is ∙ sym is.prefix_is;
      apart = λ e. parts.apart (sym e);
      has_old = is.old;
      has_leaf = is.new;
      only = is.only;
      old_under = record {
        byte = byte_small depth (low t old);
        bytes = next (low t old) ∙ ap (λ f. 256 * f + byte_at depth (low t old)) (sym parts.same ∙ sym prefix_bytes);
        deeper = subst (λ d. d < depth_of t old) (sym is.depth_is) less;
      };
      leaf_under = record {
        byte = byte_small depth key;
        bytes = ap (first_bytes (t.depth pair + 1)) key_is ∙ next key ∙ ap (λ f. 256 * f + byte_at depth key) (sym prefix_bytes);
        deeper = subst (λ d. d < key_bytes) (sym is.depth_is) small;
      };
      fits = fits_at place refl;
    }
  where
    fits_at : (p : Place) → place ≡ p → FitsAt t p (Cell pair)
    fits_at Root at = tt
    fits_at (Entry x b) at =
        let comes' : Comes t key (Entry x b) = subst (Comes t key) at comes in
        let cell : IsCell room t x = tree (Cell x) (comes_place t key (Entry x b) comes') in
        let old = t.child x b in
        let some_child : old ≢ Nothing = λ e. some_old (ap (reference_at t) at ∙ e) in
        let under : IsUnder t x b old = cell.under b some_child in
        let old_sound : IsSound room t old = tree old (below_old t (Entry x b) old (comes_place t key (Entry x b) comes') some_child here) in
        let most = depth_most room t old old_sound in
        let less' : depth < depth_of t old = subst (λ q. depth < depth_of t (reference_at t q)) at less in
        let parts' : PartsAt depth key (low t old) = subst (λ q. PartsAt depth key (low t (reference_at t q))) at parts in
        let key_at = next_bytes room t key x b tree comes' in
        let alike : first_bytes (t.depth x + 1) key ≡ first_bytes (t.depth x + 1) (low t old) = key_at ∙ sym under.bytes in
        let cell_depth : t.depth x < key_bytes = cell.depth in
        -- the key and what is there have the cell's bytes and one more in common
        let deeper : t.depth x < depth = elim (cases_lt (t.depth x) depth) [
          | inl lt ↦ lt
          | inr le ↦
              let small : depth < key_bytes = omega arith in
              let same : first_bytes (depth + 1) key ≡ first_bytes (depth + 1) (low t old) = fewer_alike (depth + 1) (t.depth x + 1) key (low t old) (omega arith) (omega arith) alike in
              let both : 256 * first_bytes depth key + byte_at depth key ≡ 256 * first_bytes depth (low t old) + byte_at depth (low t old) = sym (first_next depth key small) ∙ same ∙ first_next depth (low t old) small in
              let first_same : first_bytes depth key ≡ first_bytes depth (low t old) = parts'.same in
              absurd (parts'.apart (omega arith))
        ] in
        record {
          byte = under.byte;
          bytes = ap (first_bytes (t.depth x + 1)) is.prefix_is ∙ fewer_of_prefix (t.depth x + 1) depth key (omega arith) (omega arith) ∙ key_at;
          deeper = subst (λ d. t.depth x < d) (sym is.depth_is) deeper;
        }

pub way_leads : WayLeads
way_leads room t place key i tree comes reached key_is = go place comes
  where
    go : (p : Place) → Comes t key p → Reaches t (reference_at t p) (Leaf i)
    go p begins = reached
    go p (goes_on {place = q} {x = x} before is same) =
        let at_x : Reaches t (Cell x) (Leaf i) = subst (λ r. Reaches t r (Leaf i)) is (go q before) in
        let sound : IsSoundFrom room t (Cell x) = λ s way. tree s (join t (comes_place t key (Entry x (byte_at (t.depth x) key)) (goes_on before is same)) way) in
        elim (cell_goes t x (Leaf i) at_x) [
          | inl wrong ↦ absurd cc
          | inr on ↦
              let byte : byte_at (t.depth x) (t.key i) ≡ on.byte = byte_below room t x on.byte (Leaf i) sound on.some_child on.reach in
              subst (λ c. Reaches t (t.child x c) (Leaf i)) (sym byte ∙ ap (byte_at (t.depth x)) key_is) on.reach
        ]
