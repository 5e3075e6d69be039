-- What each element of a list gives, one element more at a time.
use Rattle.std.proofs.Common.{◌≡◌, ℕ, ◌+◌, ◌<◌, ◌⊎◌, inl, inr, Option, Some, None, List, [], ◌∷◌, ◌++◌, length, get_or, take, refl, sym, ap, subst, ◌∙◌}
use Rattle.std.specs.Prelude.{Contains}
use Rattle.std.specs.List.{filter_map, cons_option}
use Rattle.std.specs.Option.{option_to_list}
use Rattle.std.proofs.lemmas.List.{take_more}
use Rattle.std.proofs.lemmas.List.Elements.{filter_map-append}
use Rattle.transcript.proofs.Orders.{first_or_later, first_has, later_has, none_has}

module _ {X Y : Type 0} (h : X → Option Y) where
  last_gives : (o : Option Y) → cons_option o [] ≡ option_to_list o
  last_gives None = refl
  last_gives (Some y) = refl

  pub given_more : (xs : List X) (i : ℕ) (x : X) → i < length xs → x ≡ get_or xs i x → filter_map h (take (i + 1) xs) ≡ filter_map h (take i xs) ++ option_to_list (h x)
  given_more xs i x within is =
      ap (filter_map h) (take_more xs i x within ∙ ap (λ (y : X). take i xs ++ y ∷ []) (sym is))
      ∙ filter_map-append h (take i xs) (x ∷ []) ∙ ap (λ (ys : List Y). filter_map h (take i xs) ++ ys) (last_gives (h x))

  behind : (o : Option Y) (ys : List Y) (y : Y) → Contains ys y → Contains (cons_option o ys) y
  behind None ys y there = there
  behind (Some z) ys y there = later_has z ys y there

  here : (o : Option Y) (ys : List Y) (y : Y) → o ≡ Some y → Contains (cons_option o ys) y
  here o ys y gives = subst (λ (p : Option Y). Contains (cons_option p ys) y) (sym gives) (first_has y ys)

  -- what is given by an element is among what all give
  pub given_here : (xs : List X) (x : X) (y : Y) → Contains xs x → h x ≡ Some y → Contains (filter_map h xs) y
  given_here [] x y has gives = absurd (none_has x has)
  given_here (first ∷ xs) x y has gives = elim (first_or_later first xs x has) [
    | inl is ↦ here (h first) (filter_map h xs) y (ap h is ∙ gives)
    | inr later ↦ behind (h first) (filter_map h xs) y (given_here xs x y later gives)
  ]

  either : (o : Option Y) (ys : List Y) (y : Y) → Contains (cons_option o ys) y → (o ≡ Some y) ⊎ Contains ys y
  either None ys y there = inr there
  either (Some z) ys y there = elim (first_or_later z ys y there) [
    | inl is ↦ inl (ap (λ (w : Y). Some w) is)
    | inr later ↦ inr later
  ]

  -- and what is among that is given by one
  pub given_by : (xs : List X) (y : Y) → Contains (filter_map h xs) y → (x : X) × Contains xs x × (h x ≡ Some y)
  given_by [] y has = absurd (none_has y has)
  given_by (first ∷ xs) y has = elim (either (h first) (filter_map h xs) y has) [
    | inl gives ↦ (first, first_has first xs, gives)
    | inr later ↦ let one = given_by xs y later in (one.0, later_has first xs one.0 one.1, one.2)
  ]
