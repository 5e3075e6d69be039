-- What a call comes to, by cases.
use Rattle.std.proofs.Common.{◌≡◌, Bool, refl, subst}
use Rattle.std.specs.Prelude.{Option, Some, None, IfSome}
use Rattle.stopped_rounds.specs.Bounded.{ComesTo}
use Rattle.stopped_rounds.specs.declared.bounded_map.Bounded.{Bounded}
use Rattle.stopped_rounds.specs.declared.bounded_map.Bounded.TheVariants as bounded

pub came : {T : Type 0} (P : T → Type 0) (Q : Bool → Type 0) (b : Bounded T) (x : T) → b ≡ bounded.Answered x → ComesTo b P Q → P x
came P Q b x is ends = subst (λ (r : Bounded _). ComesTo r P Q) is ends

pub was_cut : {T : Type 0} (P : T → Type 0) (Q : Bool → Type 0) (b : Bounded T) (placed : Bool) → b ≡ bounded.Cut placed → ComesTo b P Q → Q placed
was_cut P Q b placed is ends = subst (λ (r : Bounded _). ComesTo r P Q) is ends

pub of_some : {T : Type 0} (P : T → Type 0) (o : Option T) (x : T) → o ≡ Some x → IfSome o P → P x
of_some P o x is told = subst (λ (r : Option _). IfSome r P) is told

pub none_else : {A : Type 0} (o : Option A) → ((x : A) → o ≡ Some x → ⊥) → o ≡ None
none_else None never = refl
none_else (Some x) never = absurd (never x refl)
