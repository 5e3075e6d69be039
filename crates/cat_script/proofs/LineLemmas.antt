-- Where the lines of a text end.
use Rattle.std.proofs.Common.{◌≡◌, ℕ, zero, suc, eq-eqb, ◌<◌, Bool, false, true, cond, eqb, List, [], ◌∷◌, ◌++◌, length, get_or, take, drop, refl, sym, ap, ◌∙◌, arith, append_assoc}
use Rattle.std.proofs.lemmas.List.{append-nil}
use Rattle.std.proofs.lemmas.Bool.Decides.{Decides-eqb}
use Rattle.cat_script.specs.Lines.{lines_after}

-- this byte stands at no place of the text below this one
abbrev pub LacksBelow : ℕ → List ℕ → ℕ → Type 0
LacksBelow byte text end = (j : ℕ) → j < end → get_or text j 0 ≡ byte → ⊥

pub differs : (a b : ℕ) → (a ≡ b → ⊥) → eqb a b ≡ false
differs a b apart = by_cases (eqb a b) refl where
  by_cases : (t : Bool) → eqb a b ≡ t → t ≡ false
  by_cases true is = absurd (apart ((Decides-eqb a b).0 is))
  by_cases false is = refl

-- the first line, where a line feed ends it
pub lines_after-first : (line text : List ℕ) (end : ℕ) → end < length text → LacksBelow 10 text end → get_or text end 0 ≡ 10 →
    lines_after line text ≡ (line ++ take end text) ∷ lines_after [] (drop (suc end) text)
lines_after-first line [] end within lacks here = absurd (omega (arith, within))
lines_after-first line (b ∷ bs) zero within lacks here =
    ap (λ t. cond t (line ∷ lines_after [] bs) (lines_after (line ++ b ∷ []) bs)) (eq-eqb b 10 here) ∙ ap (λ l. l ∷ lines_after [] bs) (sym (append-nil line))
lines_after-first line (b ∷ bs) (suc end) within lacks here =
    ap (λ t. cond t (line ∷ lines_after [] bs) (lines_after (line ++ b ∷ []) bs)) (differs b 10 (lacks 0 (omega arith)))
    ∙ lines_after-first (line ++ b ∷ []) bs end (omega (arith, within)) (λ j less. lacks (suc j) (omega (arith, less))) here
    ∙ ap (λ l. l ∷ lines_after [] (drop (suc end) bs)) (append_assoc line (b ∷ []) (take end bs))

-- a last line without a line feed
pub lines_after-last : (line text : List ℕ) → 0 < length (line ++ text) → LacksBelow 10 text (length text) → lines_after line text ≡ (line ++ text) ∷ []
lines_after-last line [] some lacks =
    ap (λ t. cond t [] (line ∷ [])) (differs (length line) 0 (λ none. omega (arith, none, some, ap length (append-nil line)))) ∙ ap (λ l. l ∷ []) (sym (append-nil line))
lines_after-last line (b ∷ bs) some lacks =
    ap (λ t. cond t (line ∷ lines_after [] bs) (lines_after (line ++ b ∷ []) bs)) (differs b 10 (lacks 0 (omega arith)))
    ∙ lines_after-last (line ++ b ∷ []) bs (rw (append_assoc line (b ∷ []) bs) some) (λ j less. lacks (suc j) (omega (arith, less)))
    ∙ ap (λ l. l ∷ []) (append_assoc line (b ∷ []) bs)
