-- A tree of names with their numbers as a map.
use Rattle.std.proofs.Common.{◌≡◌, ◌↔◌, ℕ, Bool, true, false, not, cond, eqb, Option, Some, None, List, [], ◌∷◌, ◌++◌, ◌+◌, ◌-◌, ◌≤◌, take, drop, refl, sym, ap, ◌∙◌, arith}
use Rattle.std.specs.Prelude.{IsTrue}
use Rattle.std.specs.BTreeMap.{is_at}
use Rattle.std.specs.FinMap as fin
use Rattle.std.specs.FinMap.Entries as entries
use Rattle.std.specs.Map.{lookup}
use Rattle.std.specs.Option.{option_eq, option_copied, is_none, is_some}
use Rattle.std.specs.Ordering.{is_eq}
use Rattle.std.proofs.lemmas.Bool.{false≢true, eq-eqb, eqb-true}
use Rattle.std.proofs.lemmas.List.{take-append-drop, take-take, drop-take}
use Rattle.std.proofs.lemmas.List.Sums.{fold-append}
use Rattle.cat_key.specs.Names.{name_cmp}
use Rattle.std.proofs.Common.{Bor}
use Rattle.cat_history.specs.CrashEnds.{has_value}
use Rattle.cat_history.specs.Maps.{Map, at}
use Rattle.cat_history.specs.Writes.{after, after_all, changed}
use Rattle.cat_history.specs.declared.op.Write.{Write}

found_alike : (name : List ℕ) (es : List (List ℕ × ℕ)) → entries.find name_cmp name es ≡ lookup (is_at (name_cmp name)) es
found_alike name [] = refl
found_alike name (e ∷ es) = ap (cond (is_eq (name_cmp name e.0)) (Some e.1)) (found_alike name es)

-- what a tree has at a name is what its map has
pub at_tree : (m : Map) (es : List (List ℕ × ℕ)) (name : List ℕ) → es ≡ fin.entries m → lookup (is_at (name_cmp name)) es ≡ at m name
at_tree m es name is = ap (lookup (is_at (name_cmp name))) is ∙ sym (found_alike name (fin.entries m)) ∙ sym (fin.get-entries m name)

-- `==` of two numbers that there may be
pub same_number : (a b : Option ℕ) → IsTrue (option_eq eqb a b) ↔ (a ≡ b)
same_number None None = (λ _. refl, λ _. refl)
same_number None (Some n) = (λ no. absurd (false≢true no), λ same. absurd (none_some same)) where
  none_some : None ≡ Some n → ⊥
  none_some e = cc
same_number (Some n) None = (λ no. absurd (false≢true no), λ same. absurd (some_none same)) where
  some_none : Some n ≡ None → ⊥
  some_none e = cc
same_number (Some m) (Some n) = (λ yes. ap (λ k. Some k) (eqb-true m n yes), λ same. eq-eqb m n (one same)) where
  one : Some m ≡ Some n → m ≡ n
  one e = cc

-- the map after more of the writes
pub after_more : (m : Map) (writes : List Write) (done : ℕ) (next : List Write) (until : ℕ) → take done writes ++ next ≡ take until writes → after_all (after m writes done) next ≡ after m writes until
after_more m writes done next until whole = sym (fold-append (λ n (w : Write). changed n w.change) m (take done writes) next) ∙ ap (after_all m) whole

-- a front of a list, and more of it
pub joined : {X : Type 0} (i j : ℕ) (l : List X) → i ≤ j → take i l ++ take (j - i) (drop i l) ≡ take j l
joined i j l le =
    let whole : i + (j - i) ≡ j = omega arith in
    ap (λ (front : List _). front ++ take (j - i) (drop i l)) (sym (take-take i j l le))
    ∙ ap (λ (rest : List _). take i (take j l) ++ rest) (sym (ap (λ (k : ℕ). drop i (take k l)) (sym whole) ∙ drop-take i (j - i) l))
    ∙ take-append-drop i (take j l)

-- the same of a number that there is
pub same_value : (o : Option ℕ) (value : ℕ) → option_eq eqb o (Some value) ≡ has_value o value
same_value None value = refl
same_value (Some n) value = refl

pub none_copied : (o : Option (Bor ℕ)) → is_none (option_copied o) ≡ is_none o
none_copied None = refl
none_copied (Some x) = refl

-- what `is_none` answers
pub none_told : (b : Bool) (o : Option (Bor ℕ)) → not b ≡ is_some o → b ≡ is_none o
none_told true None told = refl
none_told false None told = absurd (false≢true (sym told))
none_told true (Some x) told = absurd (false≢true told)
none_told false (Some x) told = refl
