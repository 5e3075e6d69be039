-- Bytes that are no image have one first fault.
use Rattle.std.proofs.Common.{◌≡◌, ℕ, ◌⊎◌, List, refl, sym, ap, ◌∙◌, inl, inr}
use Rattle.pm_words.specs.Bytes.{layout_in, HasHeader, HasLayout, IsFault, IsFirstOut}
use Rattle.pm_words.specs.Layouts.{IsLayout}
use Rattle.pm_words.specs.declared.bytes.ImageFault.{ImageFault}
use Rattle.pm_words.specs.declared.bytes.ImageFault.TheVariants as fault
use Rattle.pm_words.specs.declared.layout.Field.{Field}
use Rattle.pm_words.specs.declared.layout.Field.TheVariants as field
use Rattle.pm_words.specs.declared.layout.Layout.{Layout}

in-range : (l : Layout) (out : Field) → IsLayout l → IsFirstOut l out → ⊥
in-range l field.Nodes is out = out is.nodes
in-range l field.Slots is out = out.1 is.slots
in-range l field.Callers is out = out.2 is.callers

one-out : (l : Layout) (a b : Field) → IsFirstOut l a → IsFirstOut l b → a ≡ b
one-out l field.Nodes field.Nodes out out' = refl
one-out l field.Nodes field.Slots out out' = absurd (out out'.0)
one-out l field.Nodes field.Callers out out' = absurd (out out'.0)
one-out l field.Slots field.Nodes out out' = absurd (out' out.0)
one-out l field.Slots field.Slots out out' = refl
one-out l field.Slots field.Callers out out' = absurd (out.1 out'.1)
one-out l field.Callers field.Nodes out out' = absurd (out' out.0)
one-out l field.Callers field.Slots out out' = absurd (out'.1 out.1)
one-out l field.Callers field.Callers out out' = refl

-- a length is no fault of bytes with a header whose layout is out of reach
not-length : (bytes : List ℕ) {A : Type 0} → HasHeader bytes → (HasLayout bytes → ⊥) → (¬ HasHeader bytes) ⊎ (HasLayout bytes × A) → ⊥
not-length bytes header none (inl lacks) = lacks header
not-length bytes header none (inr has) = none has.0

pub one-image-fault : (bytes : List ℕ) (a b : ImageFault) → IsFault bytes a → IsFault bytes b → a ≡ b
one-image-fault bytes (fault.Length n) (fault.Length m) is is' = ap fault.Length (is.0 ∙ sym is'.0)
one-image-fault bytes (fault.Length n) fault.Magic is is' = absurd (not-length bytes is'.0 (λ has. is'.1 has.0.0.1) is.1)
one-image-fault bytes (fault.Length n) (fault.Format found) is is' = absurd (not-length bytes is'.0.0 (λ has. is'.2 (is'.1 ∙ has.0.1)) is.1)
one-image-fault bytes (fault.Length n) (fault.Layout out) is is' = absurd (not-length bytes is'.0.0.0 (λ has. in-range (layout_in bytes) out has.1 is'.1) is.1)
one-image-fault bytes fault.Magic (fault.Length n) is is' = absurd (not-length bytes is.0 (λ has. is.1 has.0.0.1) is'.1)
one-image-fault bytes fault.Magic fault.Magic is is' = refl
one-image-fault bytes fault.Magic (fault.Format found) is is' = absurd (is.1 is'.0.1)
one-image-fault bytes fault.Magic (fault.Layout out) is is' = absurd (is.1 is'.0.0.1)
one-image-fault bytes (fault.Format found) (fault.Length n) is is' = absurd (not-length bytes is.0.0 (λ has. is.2 (is.1 ∙ has.0.1)) is'.1)
one-image-fault bytes (fault.Format found) fault.Magic is is' = absurd (is'.1 is.0.1)
one-image-fault bytes (fault.Format found) (fault.Format other) is is' = ap fault.Format (is.1 ∙ sym is'.1)
one-image-fault bytes (fault.Format found) (fault.Layout out) is is' = absurd (is.2 (is.1 ∙ is'.0.1))
one-image-fault bytes (fault.Layout out) (fault.Length n) is is' = absurd (not-length bytes is.0.0.0 (λ has. in-range (layout_in bytes) out has.1 is.1) is'.1)
one-image-fault bytes (fault.Layout out) fault.Magic is is' = absurd (is'.1 is.0.0.1)
one-image-fault bytes (fault.Layout out) (fault.Format found) is is' = absurd (is'.2 (is'.1 ∙ is.0.1))
one-image-fault bytes (fault.Layout out) (fault.Layout other) is is' = ap fault.Layout (one-out (layout_in bytes) out other is.1 is'.1)
one-image-fault bytes fault.NoMemory b is is' = absurd is
one-image-fault bytes (fault.Length n) fault.NoMemory is is' = absurd is'
one-image-fault bytes fault.Magic fault.NoMemory is is' = absurd is'
one-image-fault bytes (fault.Format found) fault.NoMemory is is' = absurd is'
one-image-fault bytes (fault.Layout out) fault.NoMemory is is' = absurd is'
