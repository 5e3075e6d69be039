-- How many writes can be placed once a limit is reached.
use Rattle.std.proofs.Common.{◌≡◌, ◌≢◌, ℕ, ◌+◌, ◌-◌, ◌<◌, ◌≤◌, Bool, true, false, cond, ◌||◌, nat_eq, List, [], ◌∷◌, length, get_or, drop, map, refl, sym, ap, subst, ◌∙◌, arith, Contains, AllPairs, length-drop}
use Rattle.std.proofs.lemmas.Bool.{eqb-true}
use Rattle.std.proofs.lemmas.Bool.Decides.{Decides-eqb}
use Rattle.std.proofs.lemmas.Cmp.{nat_eq_equiv}
use Rattle.std.proofs.lemmas.List.{get_or-map, length-map, get_or-drop}
use Rattle.std.proofs.lemmas.Map.Made.{is_member-Decides, IsDistinct-from_AllPairs, length-le_from_is_member}
use Rattle.std.proofs.lemmas.Option.{slice_get-get_or}
use Rattle.std.specs.Set.{is_member, unique_keys}
use Rattle.cat_history.specs.Callers.{callers_among, LateWritesAreFew}
use Rattle.cat_history.specs.declared.op.Change.TheVariants as change
use Rattle.cat_history.specs.declared.op.Write.{Write}

-- what a list has, it has without repetition
unique-has : (xs : List ℕ) (q : ℕ) → is_member nat_eq xs q ≡ true → is_member nat_eq (unique_keys nat_eq xs) q ≡ true
unique-has [] q has = has
unique-has (x ∷ xs) q has = by (is_member nat_eq xs x) (nat_eq q x) refl refl has (unique-has xs)
  where
    by : (b c : Bool) → is_member nat_eq xs x ≡ b → nat_eq q x ≡ c → (c || is_member nat_eq xs q) ≡ true →
        ((r : ℕ) → is_member nat_eq xs r ≡ true → is_member nat_eq (unique_keys nat_eq xs) r ≡ true) →
        is_member nat_eq (cond b (unique_keys nat_eq xs) (x ∷ unique_keys nat_eq xs)) q ≡ true
    by true true again same has behind = subst (λ (r : ℕ). is_member nat_eq (unique_keys nat_eq xs) r ≡ true) (sym (eqb-true q x same)) (behind x again)
    by true false again same has behind = behind q has
    by false true again same has behind = ap (λ c. c || is_member nat_eq (unique_keys nat_eq xs) q) same
    by false false again same has behind = ap (λ c. c || is_member nat_eq (unique_keys nat_eq xs) q) same ∙ behind q has

-- different callers, each of whom stands in the list, are no more than the list has
pub different-are-few : (xs callers : List ℕ) → AllPairs (λ x y. x ≢ y) xs → ((x : ℕ) → Contains xs x → Contains callers x) → length xs ≤ callers_among callers
different-are-few xs callers differ stand =
    length-le_from_is_member nat_eq_equiv xs (unique_keys nat_eq callers) (IsDistinct-from_AllPairs Decides-eqb xs differ)
    (λ q has. unique-has callers q ((is_member-Decides Decides-eqb callers q).1 (stand q ((is_member-Decides Decides-eqb xs q).0 has))))

-- the callers of the writes from this place on
abbrev callers_from : ℕ → List Write → List ℕ
callers_from start writes = map (λ (w : Write). w.caller) (drop start writes)

-- what a read past the end gives
abbrev some_write : ℕ → Write
some_write caller = record { caller = caller; index = 0; change = change.Del [] }

module _ (start : ℕ) (writes : List Write) where
  length-from : length (callers_from start writes) ≡ length writes - start
  length-from = length-map (drop start writes) (λ (w : Write). w.caller) ∙ length-drop start writes

  caller-from : (k x : ℕ) → k < length (callers_from start writes) → get_or (callers_from start writes) k x ≡ (get_or writes (start + k) (some_write x)).caller
  caller-from k x within =
      get_or-map (λ (w : Write). w.caller) (drop start writes) k (some_write x) x (omega (arith, within, length-map (drop start writes) (λ (w : Write). w.caller)))
      ∙ ap (λ (w : Write). w.caller) (get_or-drop start writes k (some_write x))

pub late_writes_are_few : LateWritesAreFew
late_writes_are_few limit callers writes some among apart place within =
    let start : ℕ = limit - 1 in
    let above : 0 < limit = some (omega arith) in
    let size = length-from start writes in
    let few : length (callers_from start writes) ≤ callers_among callers = different-are-few (callers_from start writes) callers
    (λ i j x less inside same.
    let here = caller-from start writes i x (omega arith) in
    let there = caller-from start writes j x inside in
    apart (start + i) (start + j) (get_or writes (start + i) (some_write x)) (get_or writes (start + j) (some_write x))
    (slice_get-get_or writes (start + i) (some_write x) (omega arith)) (slice_get-get_or writes (start + j) (some_write x) (omega arith))
    (omega arith) (omega arith) (sym here ∙ same ∙ there))
    (λ x has.
    let here : (get_or writes (start + has.0) (some_write x)).caller ≡ x = sym (caller-from start writes has.0 x has.1) ∙ has.2 in
    subst (Contains callers) here
    (among (start + has.0) (get_or writes (start + has.0) (some_write x)) (slice_get-get_or writes (start + has.0) (some_write x) (let inside = has.1 in omega arith)))) in
    omega arith
