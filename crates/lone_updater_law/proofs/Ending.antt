-- Which nodes are GONE still after a turn that was alone.
use Rattle.std.proofs.Common.{◌≡◌, ◌<◌, ◌⊎◌, not, Bool, true, false, cond, inl, inr, refl, sym, subst, ap, ◌∙◌, arith}
use Rattle.std.proofs.lemmas.Bool.{and_cases, eqb-false, leb-false}
use Rattle.pm_words.specs.Codes.{gone_status}
use Rattle.version_lock.specs.Versions.{IsWorn}
use Rattle.version_lock.proofs.WordTests.{worn_word}
use Rattle.index_law.specs.Facts.{Facts}
use Rattle.index_law.specs.Worlds.{facts}
use Rattle.index_law.specs.Whole.{Whole}
use Rattle.lone_updater_law.specs.LoneTurns.{stamp_in, frees_node, GoneAreHeldBack}

not_worn : (b : Bool) → not b ≡ false → b ≡ true
not_worn true is = refl
not_worn false is = absurd (let no : true ≡ false = is in cc)

pub gone_are_held_back : GoneAreHeldBack
gone_are_held_back before stamp release answer now n is here gone = by (frees_node before.whole.world stamp release n) refl
  where
    by : (b : Bool) → frees_node before.whole.world stamp release n ≡ b → IsWorn ((facts now.whole.world).version n) now.whole.world.generation ⊎ (release < stamp_in now.whole.world n)
    by true frees = absurd (let no : 2 ≡ 0 = sym gone ∙ is.statuses n here ∙ ap (λ b. cond b 0 ((facts before.whole.world).status n)) frees in omega arith)
    by false stays =
        let was : (facts before.whole.world).status n ≡ gone_status = sym (ap (λ b. cond b 0 ((facts before.whole.world).status n)) stays) ∙ sym (is.statuses n here) ∙ gone in
        elim (and_cases _ _ stays) [
          | inl other ↦ absurd (eqb-false _ _ other was)
          | inr both ↦ elim (and_cases _ _ both) [
            | inl late ↦ inr (subst (λ k. release < k) (sym (is.stamps n here gone)) (leb-false _ _ late))
            | inr worn ↦ inl (
                subst (λ g. IsWorn ((facts now.whole.world).version n) g) (sym (ap (λ (q : Whole). q.world.generation) is.kept.whole))
                (subst (λ v. IsWorn v before.whole.world.generation) (sym (ap (λ (f : Facts). f.version n) is.kept.facts))
                (worn_word ((facts before.whole.world).version n) before.whole.world.generation (not_worn _ worn))))
          ]
        ]
