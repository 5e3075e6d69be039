-- Marks that are set one after another follow a change of the tree.
use Rattle.std.proofs.Common.{◌≡◌, ◌≢◌, ℕ, ◌≤◌, ◌⊎◌, inl, inr, sym, subst, ap, ◌∙◌, arith}
use Rattle.tree_law.specs.Trees.{Reference, Nothing, Leaf, Cell}
use Rattle.tree_law.specs.Words.{kind_of, number_of}
use Rattle.tree_law.specs.Stages.{Marks}
use Rattle.tree_law.specs.Marking.{mark_of, MayHaveMark, IsMarkSet, OneComes, TwoCome, OneIsReplaced, OneGoes, TwoGo}

-- the mark that is set
set_here : (m m' : Marks) (r : Reference) (mark : ℕ) → IsMarkSet m m' r mark → mark_of m' r ≡ mark
set_here m m' Nothing mark set = absurd set.may
set_here m m' (Leaf i) mark set = set.here
set_here m m' (Cell x) mark set = set.here

-- and another one
set_other : (m m' : Marks) (r q : Reference) (mark : ℕ) → IsMarkSet m m' r mark → MayHaveMark q → q ≢ r → mark_of m' q ≡ mark_of m q
set_other m m' Nothing q mark set may apart = absurd set.may
set_other m m' r Nothing mark set may apart = absurd may
set_other m m' (Leaf j) (Leaf i) mark set may apart = set.others 1 i (λ kind number. apart (ap Leaf number))
set_other m m' (Cell y) (Leaf i) mark set may apart = set.others 1 i (λ kind number. let least : 2 ≤ kind_of y = set.may.0 in omega arith)
set_other m m' (Leaf j) (Cell x) mark set may apart = set.others (kind_of x) (number_of x) (λ kind number. let least : 2 ≤ kind_of x = may.0 in omega arith)
set_other m m' (Cell y) (Cell x) mark set may apart = set.others (kind_of x) (number_of x) (λ kind number. apart (ap Cell (let same : x ≡ y = omega arith in same)))

-- a mark that is 1 isn't 0
marked : (mark : ℕ) → mark ≡ 1 → mark ≢ 0
marked mark one none = omega arith

at : (m : Marks) (q r : Reference) (mark : ℕ) → q ≡ r → mark_of m r ≡ mark → mark_of m q ≡ mark
at m q r mark same is = ap (mark_of m) same ∙ is

pub one_comes : OneComes
one_comes m m' r set = record {
  comes = λ q is. marked (mark_of m' q) (at m' q r 1 is (set_here m m' r 1 set));
  goes = λ q none. absurd none;
  stays = λ q may not_more not_less. set_other m m' r q 1 set may not_more;
}

pub one_goes : OneGoes
one_goes m m' r set = record {
  comes = λ q none. absurd none;
  goes = λ q is. at m' q r 0 is (set_here m m' r 0 set);
  stays = λ q may not_more not_less. set_other m m' r q 0 set may not_less;
}

-- two marks, one after the other
module _ (m one m' : Marks) (r s : Reference) (mark : ℕ) (apart : r ≢ s) (first : IsMarkSet m one r mark) (second : IsMarkSet one m' s mark) where
  both_here : (q : Reference) → (q ≡ r) ⊎ (q ≡ s) → mark_of m' q ≡ mark
  both_here q is = elim is [
    | inl at_first ↦ at m' q r mark at_first (set_other one m' s r mark second first.may apart ∙ set_here m one r mark first)
    | inr at_second ↦ at m' q s mark at_second (set_here one m' s mark second)
  ]

  both_other : (q : Reference) → MayHaveMark q → ((q ≡ r) ⊎ (q ≡ s) → ⊥) → mark_of m' q ≡ mark_of m q
  both_other q may neither = set_other one m' s q mark second may (λ e. neither (inr e)) ∙ set_other m one r q mark first may (λ e. neither (inl e))

pub two_come : TwoCome
two_come m one m' r s apart first second = record {
  comes = λ q is. marked (mark_of m' q) (both_here m one m' r s 1 apart first second q is);
  goes = λ q none. absurd none;
  stays = λ q may not_more not_less. both_other m one m' r s 1 apart first second q may not_more;
}

pub two_go : TwoGo
two_go m one m' r s apart first second = record {
  comes = λ q none. absurd none;
  goes = λ q is. both_here m one m' r s 0 apart first second q is;
  stays = λ q may not_more not_less. both_other m one m' r s 0 apart first second q may not_less;
}

-- what came may have a mark, and isn't what goes
came : (r s x q : Reference) → MayHaveMark r → MayHaveMark s → r ≢ x → s ≢ x → (q ≡ r) ⊎ (q ≡ s) → MayHaveMark q × (q ≢ x)
came r s x q may_first may_second not_first not_second is = elim is [
  | inl at_first ↦ (subst MayHaveMark (sym at_first) may_first, λ e. not_first (sym at_first ∙ e))
  | inr at_second ↦ (subst MayHaveMark (sym at_second) may_second, λ e. not_second (sym at_second ∙ e))
]

pub one_is_replaced : OneIsReplaced
one_is_replaced m one two m' r s x apart not_first not_second first second last = record {
  comes = λ q is.
      let other = came r s x q first.may second.may not_first not_second is in
      marked (mark_of m' q) (set_other two m' x q 0 last other.0 other.1 ∙ both_here m one two r s 1 apart first second q is);
  goes = λ q is. at m' q x 0 is (set_here two m' x 0 last);
  stays = λ q may not_more not_less. set_other two m' x q 0 last may not_less ∙ both_other m one two r s 1 apart first second q may not_more;
}
