-- A caller's own writes, told in two manners, and between which writes a further one of them stands.
use Rattle.std.proofs.Common.{◌≡◌, ℕ, suc, ◌+◌, ◌<◌, ◌≤◌, Bool, true, false, cond, List, [], ◌∷◌, ◌++◌, length, refl, sym, ap, subst, ◌∙◌, arith, add-zero, zero-add}
use Rattle.std.specs.Prelude.{◌==◌, All}
use Rattle.std.specs.List.{filter, enumerate_from}
use Rattle.std.proofs.lemmas.List.{append_cancel_left, length-append}
use Rattle.std.proofs.lemmas.List.Elements.{All-filter, All-from_recursion, All-head}
use Rattle.cat_history.specs.declared.op.Write.{Write}
use Rattle.caller_rounds.specs.CallerRounds.{own_writes}
use Rattle.caller_rounds.proofs.Parting.{numbers-within}
use Rattle.pac_index.specs.Kept.{Begins, placed_from, placed_by}

placed-from : (caller k : ℕ) (history : List Write) → placed_from caller k history ≡ filter (λ (e : ℕ × Write). e.1.caller == caller) (enumerate_from k history)
placed-from caller k [] = refl
placed-from caller k (w ∷ ws) =
    ap (λ (l : List (ℕ × Write)). cond (w.caller == caller) ((k, w) ∷ l) l) (placed-from caller (k + 1) ws)

pub placed-own : (caller : ℕ) (history : List Write) → placed_by caller history ≡ own_writes caller history
placed-own caller history = placed-from caller 0 history

placed-append : (caller k : ℕ) (xs ys : List Write) → placed_from caller k (xs ++ ys) ≡ placed_from caller k xs ++ placed_from caller (k + length xs) ys
placed-append caller k [] ys = ap (λ n. placed_from caller n ys) (sym (add-zero k))
placed-append caller k (x ∷ xs) ys =
    let next : (k + 1) + length xs ≡ k + suc (length xs) = omega arith in
    both (placed-append caller (k + 1) xs ys ∙ ap (λ n. placed_from caller (k + 1) xs ++ placed_from caller n ys) next) (x.caller == caller)
  where
    both : placed_from caller (k + 1) (xs ++ ys) ≡ placed_from caller (k + 1) xs ++ placed_from caller (k + suc (length xs)) ys
        → (b : Bool) → cond b ((k, x) ∷ placed_from caller (k + 1) (xs ++ ys)) (placed_from caller (k + 1) (xs ++ ys)) ≡ cond b ((k, x) ∷ placed_from caller (k + 1) xs) (placed_from caller (k + 1) xs) ++ placed_from caller (k + suc (length xs)) ys
    both rest true = ap (λ l. (k, x) ∷ l) rest
    both rest false = rest

-- where one write more is its own, that stands behind those seen before, and among those seen now
pub own_between : (caller place : ℕ) (w : Write) (old new : List Write) → Begins old new → placed_by caller new ≡ placed_by caller old ++ (place, w) ∷ [] → (length old ≤ place) × (place < length new)
own_between caller place w old new more own =
    let start : 0 + length old ≡ length old = zero-add (length old) in
    let parts : placed_by caller new ≡ placed_by caller old ++ placed_from caller (length old) more.0 =
    ap (placed_by caller) (sym more.1) ∙ placed-append caller 0 old more.0 ∙ ap (λ n. placed_by caller old ++ placed_from caller n more.0) start in
    let one : placed_from caller (length old) more.0 ≡ (place, w) ∷ [] = append_cancel_left (placed_by caller old) (placed_from caller (length old) more.0) ((place, w) ∷ []) (sym parts ∙ own) in
    let among : All (λ (e : ℕ × Write). (length old ≤ e.0) × (e.0 < length old + length more.0)) (filter (λ (e : ℕ × Write). e.1.caller == caller) (enumerate_from (length old) more.0)) =
    All-filter (λ (e : ℕ × Write). e.1.caller == caller) (λ (e : ℕ × Write). (length old ≤ e.0) × (e.0 < length old + length more.0)) (enumerate_from (length old) more.0)
    (All-from_recursion (λ (e : ℕ × Write). (length old ≤ e.0) × (e.0 < length old + length more.0)) (enumerate_from (length old) more.0) (numbers-within (length old) more.0)) in
    let here : (length old ≤ place) × (place < length old + length more.0) =
    All-head (λ (e : ℕ × Write). (length old ≤ e.0) × (e.0 < length old + length more.0)) (place, w) [] (subst (All (λ (e : ℕ × Write). (length old ≤ e.0) × (e.0 < length old + length more.0))) (sym (placed-from caller (length old) more.0) ∙ one) among) in
    let long : length new ≡ length old + length more.0 = ap length (sym more.1) ∙ length-append old more.0 in
    (here.0, let high = here.1 in omega arith)
