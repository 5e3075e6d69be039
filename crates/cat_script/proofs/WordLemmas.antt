-- Where the words of a line begin and end.
use Rattle.std.proofs.Common.{◌≡◌, ℕ, zero, suc, ◌<◌, ◌≤◌, false, true, cond, eqb, List, [], ◌∷◌, ◌++◌, length, get_or, take, drop, refl, sym, ap, ◌∙◌, arith, append_assoc}
use Rattle.std.proofs.lemmas.List.{append-nil}
use Rattle.std.proofs.lemmas.Bool.{false≢true}
use Rattle.cat_script.specs.Lines.{is_gap, words_after, without_return}
use Rattle.cat_script.proofs.LineLemmas.{differs}

-- gaps before the first word
pub words_after-gaps : (text : List ℕ) (start : ℕ) → start ≤ length text → ((j : ℕ) → j < start → is_gap (get_or text j 0) ≡ true) →
    words_after [] text ≡ words_after [] (drop start text)
words_after-gaps text zero within gaps = refl
words_after-gaps [] (suc start) within gaps = absurd (omega (arith, within))
words_after-gaps (b ∷ bs) (suc start) within gaps =
    ap (λ t. cond t (words_after [] bs) (words_after (b ∷ []) bs)) (gaps 0 (omega arith))
    ∙ words_after-gaps bs start (omega (arith, within)) (λ j less. gaps (suc j) (omega (arith, less)))

-- the first word, which a gap ends
pub words_after-first : (word text : List ℕ) (end : ℕ) → end < length text → 0 < length (word ++ take end text) →
    ((j : ℕ) → j < end → is_gap (get_or text j 0) ≡ false) → is_gap (get_or text end 0) ≡ true →
    words_after word text ≡ (word ++ take end text) ∷ words_after [] (drop end text)
words_after-first word [] end within some letters here = absurd (omega (arith, within))
words_after-first word (b ∷ bs) zero within some letters here =
    ap (λ t. cond t (cond (eqb (length word) 0) (words_after [] bs) (word ∷ words_after [] bs)) (words_after (word ++ b ∷ []) bs)) here
    ∙ ap (λ t. cond t (words_after [] bs) (word ∷ words_after [] bs)) (differs (length word) 0 (λ none. omega (arith, none, some, ap length (append-nil word))))
    ∙ ap (λ w. w ∷ words_after [] bs) (sym (append-nil word))
    ∙ ap (λ ws. (word ++ []) ∷ ws) (sym (ap (λ t. cond t (words_after [] bs) (words_after (b ∷ []) bs)) here))
words_after-first word (b ∷ bs) (suc end) within some letters here =
    ap (λ t. cond t (cond (eqb (length word) 0) (words_after [] bs) (word ∷ words_after [] bs)) (words_after (word ++ b ∷ []) bs)) (letters 0 (omega arith))
    ∙ words_after-first (word ++ b ∷ []) bs end (omega (arith, within)) (rw (append_assoc word (b ∷ []) (take end bs)) some) (λ j less. letters (suc j) (omega (arith, less))) here
    ∙ ap (λ w. w ∷ words_after [] (drop end bs)) (append_assoc word (b ∷ []) (take end bs))

-- a last word
pub words_after-last : (word text : List ℕ) → 0 < length (word ++ text) → ((j : ℕ) → j < length text → is_gap (get_or text j 0) ≡ false) →
    words_after word text ≡ (word ++ text) ∷ []
words_after-last word [] some letters =
    ap (λ t. cond t [] (word ∷ [])) (differs (length word) 0 (λ none. omega (arith, none, some, ap length (append-nil word)))) ∙ ap (λ w. w ∷ []) (sym (append-nil word))
words_after-last word (b ∷ bs) some letters =
    ap (λ t. cond t (cond (eqb (length word) 0) (words_after [] bs) (word ∷ words_after [] bs)) (words_after (word ++ b ∷ []) bs)) (letters 0 (omega arith))
    ∙ words_after-last (word ++ b ∷ []) bs (rw (append_assoc word (b ∷ []) bs) some) (λ j less. letters (suc j) (omega (arith, less)))
    ∙ ap (λ w. w ∷ []) (append_assoc word (b ∷ []) bs)

-- a gap stands behind a letter
pub ends_behind : (text : List ℕ) (end : ℕ) → is_gap (get_or text 0 0) ≡ false → is_gap (get_or text end 0) ≡ true → 0 < end
ends_behind text zero letter gap = absurd (false≢true (sym letter ∙ gap))
ends_behind text (suc end) letter gap = omega arith

-- a line with a carriage return at its end
pub return_dropped : (front : List ℕ) → without_return (front ++ 13 ∷ []) ≡ front
return_dropped [] = refl
return_dropped (b ∷ []) = refl
return_dropped (b ∷ c ∷ front) = ap (λ l. b ∷ l) (return_dropped (c ∷ front))

-- a line with none there
pub return_absent : (line : List ℕ) → ((front : List ℕ) → line ≡ front ++ 13 ∷ [] → ⊥) → without_return line ≡ line
return_absent [] none = refl
return_absent (b ∷ []) none = ap (λ t. cond t [] (b ∷ [])) (differs b 13 (λ is. none [] (ap (λ n. n ∷ []) is)))
return_absent (b ∷ c ∷ line) none = ap (λ l. b ∷ l) (return_absent (c ∷ line) (λ front is. none (b ∷ front) (ap (λ l. b ∷ l) is)))
