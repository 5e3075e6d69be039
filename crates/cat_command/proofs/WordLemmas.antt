-- The words of a command line, one by one.
use Rattle.std.proofs.Common.{◌≡◌, ℕ, ◌<◌, ◌≤◌, List, [], ◌∷◌, length, get_or, map, refl, arith}

-- what is made of each of four items
pub four_mapped : {A : Type 0} (f : A → List ℕ) (items : List A) (a b c d : A) → 4 ≤ length items → length items < 5 → a ≡ get_or items 0 a → b ≡ get_or items 1 b → c ≡ get_or items 2 c →
    d ≡ get_or items 3 d → map f items ≡ f a ∷ f b ∷ f c ∷ f d ∷ []
four_mapped f [] a b c d least most is-a is-b is-c is-d = absurd (omega (arith, least))
four_mapped f (w ∷ []) a b c d least most is-a is-b is-c is-d = absurd (omega (arith, least))
four_mapped f (w ∷ x ∷ []) a b c d least most is-a is-b is-c is-d = absurd (omega (arith, least))
four_mapped f (w ∷ x ∷ y ∷ []) a b c d least most is-a is-b is-c is-d = absurd (omega (arith, least))
four_mapped f (w ∷ x ∷ y ∷ z ∷ []) a b c d least most is-a is-b is-c is-d = rw (is-a, is-b, is-c, is-d) refl
four_mapped f (w ∷ x ∷ y ∷ z ∷ v ∷ more) a b c d least most is-a is-b is-c is-d = absurd (omega (arith, most))

-- the same of five items
pub five_mapped : {A : Type 0} (f : A → List ℕ) (items : List A) (a b c d e : A) → 5 ≤ length items → length items < 6 → a ≡ get_or items 0 a → b ≡ get_or items 1 b → c ≡ get_or items 2 c →
    d ≡ get_or items 3 d → e ≡ get_or items 4 e → map f items ≡ f a ∷ f b ∷ f c ∷ f d ∷ f e ∷ []
five_mapped f [] a b c d e least most is-a is-b is-c is-d is-e = absurd (omega (arith, least))
five_mapped f (w ∷ []) a b c d e least most is-a is-b is-c is-d is-e = absurd (omega (arith, least))
five_mapped f (w ∷ x ∷ []) a b c d e least most is-a is-b is-c is-d is-e = absurd (omega (arith, least))
five_mapped f (w ∷ x ∷ y ∷ []) a b c d e least most is-a is-b is-c is-d is-e = absurd (omega (arith, least))
five_mapped f (w ∷ x ∷ y ∷ z ∷ []) a b c d e least most is-a is-b is-c is-d is-e = absurd (omega (arith, least))
five_mapped f (w ∷ x ∷ y ∷ z ∷ v ∷ []) a b c d e least most is-a is-b is-c is-d is-e = rw (is-a, is-b, is-c, is-d, is-e) refl
five_mapped f (w ∷ x ∷ y ∷ z ∷ v ∷ u ∷ more) a b c d e least most is-a is-b is-c is-d is-e = absurd (omega (arith, most))
