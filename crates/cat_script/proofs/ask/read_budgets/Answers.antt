use Rattle.std.proofs.Common.{◌≡◌, cond, ◌++◌, ◌∷◌, [], ap, refl, sym, subst, ◌∙◌, append_assoc}
use Rattle.std.proofs.lemmas.Slice.Zip.{all_zipped_more}
use Rattle.std.specs.List.{AllZip}
use Rattle.cat_script.specs.Lines.{words_of}
use Rattle.cat_script.specs.Numbers.{IsUpTo, IsSomeUpTo}
use Rattle.cat_script.proofs.CrashLemmas.{among}
use Rattle.cat_script.proofs.ask.read_budgets.Goals as goal

pub returns-in_default-number_up_to-clause-err : goal.returns-in_default-number_up_to-clause-err
returns-in_default-number_up_to-clause-err c =
    let inv = c.loop-word.invariant in (
      refl,
      λ all. c.in_default-number_up_to.ensures.none refl
          (among (IsSomeUpTo 1000000) (words_of c.args.text.now) inv.0 c.in-Some.word.now (words_of c.in-Some.rest.now) (inv.1 ∙ ap (λ ws. inv.0 ++ ws) c.in-Some.ensures.words) all),
    )

pub loop-word-preserved : goal.loop-word-preserved
loop-word-preserved c =
    let inv = c.loop-word.invariant in
    let word = c.in-Some.word.now in
    let old = c.loop-word.budgets.items in
    let items : c.push.new.self.items ≡ old ++ c.in-Some-number_up_to.budget ∷ [] =
    c.push.ensures.items ∙ ap (λ t. cond t (old ++ c.in-Some-number_up_to.budget ∷ []) old) c.if-is_err.ensures.negation in (
      inv.0 ++ word ∷ [],
      inv.1 ∙ ap (λ ws. inv.0 ++ ws) c.in-Some.ensures.words ∙ sym (append_assoc inv.0 (word ∷ []) (words_of c.in-Some.rest.now)),
      subst (AllZip (IsUpTo 1000000) (inv.0 ++ word ∷ [])) (sym items) (all_zipped_more (IsUpTo 1000000) inv.0 c.loop-word.budgets.items word c.in-Some-number_up_to.budget inv.2 c.in-Some-number_up_to.ensures.some),
    )
