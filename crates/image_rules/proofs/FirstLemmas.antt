-- The first rule that is broken, from what is known of each rule in turn.
use Rattle.std.proofs.Common.{◌≡◌, ℕ, ◌+◌, ◌<◌, ◌↔◌, List, Option, Some, None, inl, inr, refl, sym, subst, arith}
use Rattle.std.specs.Prelude.{IsNone, IfSome}
use Rattle.std.proofs.lemmas.Bool.{false≢true, cases_lt}
use Rattle.pm_words.specs.declared.layout.Layout.{Layout}
use Rattle.pm_words.specs.Locations.{Word, word_number}
use Rattle.image_rules.specs.Lowest.{IsLowest, IsNumberOf, IsFirst}
use Rattle.image_rules.specs.Rules.{BreaksHeader, BreaksVersions, LeadsOut, LeadsBack, BreaksAnchors, BreaksInNode, BreaksLines}
use Rattle.image_rules.specs.Sound.{Breaks, in_header, in_versions, leads_out, leads_back, in_anchors, in_names, in_prints, in_apart, in_lines, AreKept, IsSound, IsFirstBroken}
use Rattle.image_rules.specs.declared.broken.Broken.{Broken}
use Rattle.image_rules.specs.declared.listed.NodeRule.TheVariants.{Names, Prints, Apart}

-- no rule is below the first, and none behind the last
pub kept_none : (l : Layout) (image : List ℕ) → AreKept l image 1
kept_none l image rule position w below (in_header b) = omega arith
kept_none l image rule position w below (in_versions b) = omega arith
kept_none l image rule position w below (leads_out b) = omega arith
kept_none l image rule position w below (leads_back b) = omega arith
kept_none l image rule position w below (in_anchors b) = omega arith
kept_none l image rule position w below (in_names b) = omega arith
kept_none l image rule position w below (in_prints b) = omega arith
kept_none l image rule position w below (in_apart b) = omega arith
kept_none l image rule position w below (in_lines b) = omega arith

pub kept_all : (l : Layout) (image : List ℕ) (limit : ℕ) → 9 < limit → AreKept l image limit → IsSound l image
kept_all l image limit past kept rule position w (in_header b) = kept 1 0 w (omega arith) (in_header b)
kept_all l image limit past kept rule position w (in_versions b) = kept 2 0 w (omega arith) (in_versions b)
kept_all l image limit past kept rule position w (leads_out b) = kept 3 position w (omega arith) (leads_out b)
kept_all l image limit past kept rule position w (leads_back b) = kept 4 position w (omega arith) (leads_back b)
kept_all l image limit past kept rule position w (in_anchors b) = kept 5 position w (omega arith) (in_anchors b)
kept_all l image limit past kept rule position w (in_names b) = kept 6 position w (omega arith) (in_names b)
kept_all l image limit past kept rule position w (in_prints b) = kept 7 position w (omega arith) (in_prints b)
kept_all l image limit past kept rule position w (in_apart b) = kept 8 position w (omega arith) (in_apart b)
kept_all l image limit past kept rule position w (in_lines b) = kept 9 0 w (omega arith) (in_lines b)

pub kept_more : (l : Layout) (image : List ℕ) (rule : ℕ) → AreKept l image rule → IsFirst l (Breaks l image rule) None → AreKept l image (rule + 1)
kept_more l image rule kept none other position w below breaks = elim (cases_lt other rule) as (λ _. ⊥) [
  | inl lower ↦ kept other position w lower breaks
  | inr reached ↦ let same : other ≡ rule = omega arith in none position w (subst (λ k. Breaks l image k position w) same breaks)
]

-- what each rule wants of a word
header_of : (l : Layout) (image : List ℕ) (position : ℕ) (w : Word) → Breaks l image 1 position w → (0 ≡ position) × BreaksHeader l image w
header_of l image position w (in_header b) = (refl, b)

versions_of : (l : Layout) (image : List ℕ) (position : ℕ) (w : Word) → Breaks l image 2 position w → (0 ≡ position) × BreaksVersions l image w
versions_of l image position w (in_versions b) = (refl, b)

pub out_of : (l : Layout) (image : List ℕ) (position : ℕ) (w : Word) → Breaks l image 3 position w → LeadsOut l image position w
out_of l image position w (leads_out b) = b

back_of : (l : Layout) (image : List ℕ) (position : ℕ) (w : Word) → Breaks l image 4 position w → LeadsBack l image position w
back_of l image position w (leads_back b) = b

anchors_of : (l : Layout) (image : List ℕ) (position : ℕ) (w : Word) → Breaks l image 5 position w → BreaksAnchors l image position w
anchors_of l image position w (in_anchors b) = b

names_of : (l : Layout) (image : List ℕ) (position : ℕ) (w : Word) → Breaks l image 6 position w → BreaksInNode l image Names position w
names_of l image position w (in_names b) = b

prints_of : (l : Layout) (image : List ℕ) (position : ℕ) (w : Word) → Breaks l image 7 position w → BreaksInNode l image Prints position w
prints_of l image position w (in_prints b) = b

apart_of : (l : Layout) (image : List ℕ) (position : ℕ) (w : Word) → Breaks l image 8 position w → BreaksInNode l image Apart position w
apart_of l image position w (in_apart b) = b

lines_of : (l : Layout) (image : List ℕ) (position : ℕ) (w : Word) → Breaks l image 9 position w → (0 ≡ position) × BreaksLines l image w
lines_of l image position w (in_lines b) = (refl, b)

-- P and Q hold of the same words
pub record AreAlike (P Q : ℕ → Word → Type 0) : Type 0 where
  pub to : (position : ℕ) (w : Word) → P position w → Q position w
  pub from : (position : ℕ) (w : Word) → Q position w → P position w

first_alike : (l : Layout) (P Q : ℕ → Word → Type 0) (found : Option ℕ) → AreAlike P Q → IsFirst l P found → IsFirst l Q found
first_alike l P Q None alike none = λ position w holds. none position w (alike.from position w holds)
first_alike l P Q (Some number) alike first = (
  first.0,
  record {
    none_before = λ before w below holds. first.1.none_before before w below (alike.from before w holds);
    lowest = (
      let at = first.1.lowest.0 in record { word = at.word; numbered = at.numbered; holds = alike.to first.0 at.word at.holds },
      λ lower below at. first.1.lowest.1 lower below (record { word = at.word; numbered = at.numbered; holds = alike.from first.0 at.word at.holds }),
    );
  },
)

-- a rule that has one position alone
first_flat : (l : Layout) (P : Word → Type 0) (Q : ℕ → Word → Type 0) (found : Option ℕ) → ((w : Word) → P w → Q 0 w) → ((position : ℕ) (w : Word) → Q position w → (0 ≡ position) × P w) →
    IsLowest (IsNumberOf l P) found → IsFirst l Q found
first_flat l P Q None to from none = λ position w holds. none (word_number l w) (record { word = w; numbered = refl; holds = (from position w holds).1 })
first_flat l P Q (Some number) to from lowest = (
  0,
  record {
    none_before = λ before w below holds. omega (arith, below);
    lowest = (
      record { word = lowest.0.word; numbered = lowest.0.numbered; holds = to lowest.0.word lowest.0.holds },
      λ lower below at. lowest.1 lower below (record { word = at.word; numbered = at.numbered; holds = (from 0 at.word at.holds).1 }),
    );
  },
)

pub first_header : (l : Layout) (image : List ℕ) (found : Option ℕ) → IsLowest (IsNumberOf l (BreaksHeader l image)) found → IsFirst l (Breaks l image 1) found
first_header l image found = first_flat l (BreaksHeader l image) (Breaks l image 1) found (λ w b. in_header b) (header_of l image)

pub first_versions : (l : Layout) (image : List ℕ) (found : Option ℕ) → IsLowest (IsNumberOf l (BreaksVersions l image)) found → IsFirst l (Breaks l image 2) found
first_versions l image found = first_flat l (BreaksVersions l image) (Breaks l image 2) found (λ w b. in_versions b) (versions_of l image)

pub first_lines : (l : Layout) (image : List ℕ) (found : Option ℕ) → IsLowest (IsNumberOf l (BreaksLines l image)) found → IsFirst l (Breaks l image 9) found
first_lines l image found = first_flat l (BreaksLines l image) (Breaks l image 9) found (λ w b. in_lines b) (lines_of l image)

pub first_out : (l : Layout) (image : List ℕ) (found : Option ℕ) → IsFirst l (LeadsOut l image) found → IsFirst l (Breaks l image 3) found
first_out l image found = first_alike l (LeadsOut l image) (Breaks l image 3) found (record { to = λ position w b. leads_out b; from = out_of l image })

pub first_back : (l : Layout) (image : List ℕ) (found : Option ℕ) → IsFirst l (LeadsBack l image) found → IsFirst l (Breaks l image 4) found
first_back l image found = first_alike l (LeadsBack l image) (Breaks l image 4) found (record { to = λ position w b. leads_back b; from = back_of l image })

pub first_anchors : (l : Layout) (image : List ℕ) (found : Option ℕ) → IsFirst l (BreaksAnchors l image) found → IsFirst l (Breaks l image 5) found
first_anchors l image found = first_alike l (BreaksAnchors l image) (Breaks l image 5) found (record { to = λ position w b. in_anchors b; from = anchors_of l image })

pub first_names : (l : Layout) (image : List ℕ) (found : Option ℕ) → IsFirst l (BreaksInNode l image Names) found → IsFirst l (Breaks l image 6) found
first_names l image found = first_alike l (BreaksInNode l image Names) (Breaks l image 6) found (record { to = λ position w b. in_names b; from = names_of l image })

pub first_prints : (l : Layout) (image : List ℕ) (found : Option ℕ) → IsFirst l (BreaksInNode l image Prints) found → IsFirst l (Breaks l image 7) found
first_prints l image found = first_alike l (BreaksInNode l image Prints) (Breaks l image 7) found (record { to = λ position w b. in_prints b; from = prints_of l image })

pub first_apart : (l : Layout) (image : List ℕ) (found : Option ℕ) → IsFirst l (BreaksInNode l image Apart) found → IsFirst l (Breaks l image 8) found
first_apart l image found = first_alike l (BreaksInNode l image Apart) (Breaks l image 8) found (record { to = λ position w b. in_apart b; from = apart_of l image })

-- an image with a first broken rule isn't sound
pub first_unsound : (l : Layout) (image : List ℕ) (broken : Broken) → IsFirstBroken l image broken → ¬ IsSound l image
first_unsound l image broken first sound = let at = first.first in sound broken.rule at.0 at.1.lowest.0.word at.1.lowest.0.holds

-- what the answer is where a first broken rule was found
pub record IsRightAnswer (l : Layout) (image : List ℕ) (answer : Option Broken) : Type 0 where
  pub none : IsNone answer ↔ IsSound l image
  pub some : IfSome answer (IsFirstBroken l image)

pub answer_some : (l : Layout) (image : List ℕ) (broken : Broken) → IsFirstBroken l image broken → IsRightAnswer l image (Some broken)
answer_some l image broken first = record {
  none = (λ e. absurd (false≢true (sym e)), λ sound. absurd (first_unsound l image broken first sound));
  some = first;
}
