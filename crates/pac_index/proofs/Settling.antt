-- Stamps stand beside the nodes: an index reads none of them.
use Rattle.std.proofs.Common.{◌≡◌, ◌≢◌, ℕ, ◌+◌, ◌<◌, ◌≤◌, ⊎_elim, List, get_or, set, sym, ap, ◌∙◌, subst, arith}
use Rattle.std.proofs.lemmas.Bool.{cases_eq}
use Rattle.std.specs.Prelude.{min}
use Rattle.cat_history.specs.Maps.{map_of}
use Rattle.pm_words.specs.declared.layout.Layout.{Layout}
use Rattle.pm_words.specs.declared.action.Action.TheVariants.{Store}
use Rattle.pm_words.specs.Locations.{Volatile, Cached, Clock, HasLocation, address_of}
use Rattle.pm_words.specs.Images.{Row}
use Rattle.pm_words.specs.Rows.{IsRow, CanAct}
use Rattle.pm_words.proofs.Apart.{at-set_same, at-set_other, addresses_within}
use Rattle.pm_words.proofs.Kept.{acted_row, outside_header}
use Rattle.pm_words.specs.Offsets.{stamp_offset}
use Rattle.index_law.specs.Facts.{Facts}
use Rattle.index_law.specs.Weights.{index_weight}
use Rattle.node_ops.specs.permutation_law.proofs.Columns.{left_stored}
use Rattle.index_law.proofs.Noting.{beside_law}
use Rattle.index_law.proofs.Rows.{facts-elsewhere}
use Rattle.index_law.proofs.Twins.{nearer, store_closer}
use Rattle.index_core.specs.Indexes.{Index, IsIndex, footed, world}
use Rattle.index_law.proofs.Footed.{stamp_footed}
use Rattle.index_core.proofs.Crashing.{words_keep}
use Rattle.index_core.proofs.Layering.{stamp_layered}
use Rattle.index_core.proofs.Permuting.{row_by_facts, words_permuted}
use Rattle.index_core.specs.Lone.{IsQuiet}
use Rattle.index_core.specs.Weights.{weight_of}
use Rattle.pac_index.specs.Stamps.{stamp_in, with_words}
use Rattle.index_law.proofs.Places.{node_at, offset_at}

abbrev stamped : Layout → List ℕ → ℕ → List ℕ
stamped l words n = set words (address_of l (Volatile n stamp_offset)) 1

pub can_stamp : (l : Layout) (words : List ℕ) (n : ℕ) → n < l.nodes → CanAct l words (Store (address_of l (Volatile n stamp_offset)) 1)
can_stamp l words n here = ((addresses_within l (Volatile n stamp_offset) (here, omega arith), outside_header l (Volatile n stamp_offset) (here, omega arith) (λ k lt. (λ e. cc, λ e. cc))), omega arith)

-- an index with another stamp
keeps_index : (l : Layout) (words : List ℕ) (n : ℕ) → n < l.nodes → 1 < stamp_in l words n → (s : Index) → IsQuiet s → IsIndex (with_words s l words) → IsIndex (with_words s l (stamped l words n))
keeps_index l words n here large s quiet is =
    let has : HasLocation l (Volatile n stamp_offset) = (here, omega arith) in
    let same = facts-elsewhere l words (map_of s.base) s.history (Volatile n stamp_offset) 1 has (λ m o e. cc, λ m e. let no : 2 ≡ 0 = ap offset_at e in omega arith) in
    let lawful = beside_law (world (with_words s l words)) (stamped l words n) is.lawful
    (acted_row l words (Store (address_of l (Volatile n stamp_offset)) 1) is.lawful.row (can_stamp l words n here))
    same
    (nearer l words (stamped l words n) (store_closer l words (Volatile n stamp_offset) 1 has (λ v e. cc)))
    (at-set_other l words (Volatile n stamp_offset) Clock 1 has tt (λ e. cc))
    (λ v there none. at-set_other l words (Volatile n stamp_offset) (Cached v) 1 has there (λ e. cc)) in
    let footed = stamp_footed (footed (with_words s l words)) n (is.whole, is.tended) here lawful in
    words_keep (with_words s l words) (stamped l words n) is lawful footed (stamp_layered (with_words s l words) n 1 is.layered quiet.turns here (λ none. omega (arith, large, none)) (λ none. omega arith) footed)
    (words_permuted (with_words s l words) (stamped l words n) (is.permuted, is.relying) lawful
    (row_by_facts l words (stamped l words n) (map_of s.base) s.history (ap (λ (f : Facts). f.version) same) (ap (λ (f : Facts). f.now) same) (ap (λ (f : Facts). f.list) same)
    (λ m low. left_stored l words (Volatile n stamp_offset) 1 m has (λ o least e. let no : o ≡ stamp_offset = ap offset_at e in omega arith))))

keeps_weight : (l : Layout) (words : List ℕ) (n : ℕ) → n < l.nodes → (s : Index) → weight_of (with_words s l (stamped l words n)) ≡ weight_of (with_words s l words)
keeps_weight l words n here s =
    ap (index_weight l) (facts-elsewhere l words (map_of s.base) s.history (Volatile n stamp_offset) 1 (here, omega arith) (λ m o e. cc, λ m e. let no : 2 ≡ 0 = ap offset_at e in omega arith))

-- The stamps of the first so many nodes are settled.
pub record Settling (l : Layout) (n : ℕ) (before words : List ℕ) : Type 0 where
  pub first : (m : ℕ) → m < n → stamp_in l words m ≡ min 1 (stamp_in l before m)
  pub rest : (m : ℕ) → n ≤ m → m < l.nodes → stamp_in l words m ≡ stamp_in l before m
  pub keeps : (s : Index) → IsQuiet s → IsIndex (with_words s l before) → IsIndex (with_words s l words)
  pub weighs : (s : Index) → weight_of (with_words s l words) ≡ weight_of (with_words s l before)

-- one node more, whose stamp stays
pub stays_settled : (l : Layout) (n : ℕ) (before words : List ℕ) → n < l.nodes → stamp_in l words n ≤ 1 → Settling l n before words → Settling l (n + 1) before words
stays_settled l n before words here small so = record {
  first = λ m less. ⊎_elim
      (λ (same : m ≡ n). let was = so.rest n (omega arith) here in subst (λ (k : ℕ). stamp_in l words k ≡ min 1 (stamp_in l before k)) (sym same) (omega arith))
      (λ (other : m ≢ n). so.first m (omega arith))
      (cases_eq m n);
  rest = λ m le low. so.rest m (omega arith) low;
  keeps = so.keeps;
  weighs = so.weighs;
}

-- or becomes 1
pub stamp_settled : (l : Layout) (n : ℕ) (before words : List ℕ) → n < l.nodes → IsRow l words → 1 < stamp_in l words n → Settling l n before words → Settling l (n + 1) before (stamped l words n)
stamp_settled l n before words here row large so = record {
  first = λ m less. ⊎_elim
      (λ (same : m ≡ n).
      let was = so.rest n (omega arith) here in
      let now : stamp_in l (stamped l words n) n ≡ 1 = at-set_same l words (Volatile n stamp_offset) 1 row.whole (here, omega arith) in
      subst (λ (k : ℕ). stamp_in l (stamped l words n) k ≡ min 1 (stamp_in l before k)) (sym same) (omega arith))
      (λ (other : m ≢ n). apart m other (omega arith) ∙ so.first m (omega arith))
      (cases_eq m n);
  rest = λ m le low. apart m (λ e. omega arith) low ∙ so.rest m (omega arith) low;
  keeps = λ s quiet is. keeps_index l words n here large s quiet (so.keeps s quiet is);
  weighs = λ s. keeps_weight l words n here s ∙ so.weighs s;
}
  where
    apart : (m : ℕ) → m ≢ n → m < l.nodes → stamp_in l (stamped l words n) m ≡ stamp_in l words m
    apart m other low = at-set_other l words (Volatile n stamp_offset) (Volatile m stamp_offset) 1 (here, omega arith) (low, omega arith) (λ e. other (ap node_at e))

-- a turn of the loop that stores, and one that doesn't
pub stored : (l : Layout) (n place : ℕ) (before : List ℕ) (row now : Row) → row.layout ≡ l → place ≡ address_of l (Volatile n stamp_offset) → n < l.nodes → IsRow row.layout row.words → 1 < get_or row.words place 0
    → Settling l n before row.words → now ≡ record { layout = row.layout; words = set row.words place 1 } → (now.layout ≡ l) × Settling l (n + 1) before now.words
stored l n place before row now layout at here is large so made = (
  ap (λ (r : Row). r.layout) made ∙ layout,
  subst (Settling l (n + 1) before) (sym (ap (λ (r : Row). r.words) made ∙ ap (λ (i : ℕ). set row.words i 1) at))
      (stamp_settled l n before row.words here (subst (λ (m : Layout). IsRow m row.words) layout is) (subst (λ (i : ℕ). 1 < get_or row.words i 0) at large) so),
)

pub stayed : (l : Layout) (n place : ℕ) (before : List ℕ) (row now : Row) → row.layout ≡ l → place ≡ address_of l (Volatile n stamp_offset) → n < l.nodes → get_or row.words place 0 ≤ 1
    → Settling l n before row.words → now ≡ row → (now.layout ≡ l) × Settling l (n + 1) before now.words
stayed l n place before row now layout at here small so made = (
  ap (λ (r : Row). r.layout) made ∙ layout,
  subst (Settling l (n + 1) before) (sym (ap (λ (r : Row). r.words) made)) (stays_settled l n before row.words here (subst (λ (i : ℕ). get_or row.words i 0 ≤ 1) at small) so),
)
