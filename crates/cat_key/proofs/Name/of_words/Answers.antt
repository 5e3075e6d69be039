use Rattle.std.proofs.Common.{◌≡◌, Bool, true, false, Option, Result, Some, None, Ok, Err, IfOk, IsOk, IsSome, is_some, is_ok, sym, ap, ◌∙◌, subst, refl}
use Rattle.std.specs.Bool.{then_some}
use Rattle.std.specs.Result.{result_ok}
use Rattle.std.specs.Cmp.Lexicographic.{same_text}
use Rattle.std.proofs.lemmas.Slice.Eq.{bytes_eq-Decides}
use Rattle.cat_key.specs.Names.{IsName, AreNameWords, words_of, bytes_of}
use Rattle.cat_key.proofs.Bytes.{bytes_of-text}
use Rattle.cat_key.proofs.Packing.{packed_from_words}
use Rattle.cat_key.proofs.Name.of_words.Goals as goal

IfOk-at_some : {T E : Type 0} (P : T → Type 0) (r : Result T E) (x : T) → IfOk r P → Some x ≡ result_ok r → P x
IfOk-at_some P (Ok y) x h e = let same : y ≡ x = cc in subst P same h
IfOk-at_some P (Err y) x h e = absurd cc

none-some : {T : Type 0} (o : Option T) → o ≡ None → IsSome o → ⊥
none-some (Some x) e h = cc
none-some None e h = cc

none-ok : {T E : Type 0} (o : Option T) (r : Result T E) → o ≡ None → is_some o ≡ is_ok r → IsOk r → ⊥
none-ok (Some x) r e same h = cc
none-ok None r e same h = cc

true-from_some : {T : Type 0} (b : Bool) (x : T) (o : Option T) → o ≡ then_some b x → IsSome o → b ≡ true
true-from_some true x o e h = refl
true-from_some false x o e h = absurd (none-some o e h)

some-from_true : {T : Type 0} (b : Bool) (x : T) (o : Option T) → o ≡ then_some b x → b ≡ true → IsSome o
some-from_true true x o e h = ap is_some e
some-from_true false x o e h = absurd cc

pub returns-in_err-name-clause-some : goal.returns-in_err-name-clause-some
returns-in_err-name-clause-some c =
    let text = bytes_of-text c.args.words c.unpacked.result c.text_in.result.now c.unpacked.ensures c.text_in.ensures in (
      λ some. absurd (none-some c.from_residual.result c.from_residual.ensures some),
      λ words.
          let named = subst IsName (sym text) (packed_from_words c.args.words words).named in
          absurd (none-ok c.ok.result c.read.result c.in_err-name.was c.ok.ensures.variant (c.read.ensures.named.1 named)),
    )

pub returns-clause-some : goal.returns-clause-some
returns-clause-some c =
    let text = bytes_of-text c.args.words c.unpacked.result c.text_in.result.now c.unpacked.ensures c.text_in.ensures in
    let name = c.in_ok-name.name in
    let inside = c.name.inside.words in (
      λ some.
          let equal = true-from_some c.eq.result name c.then_some.result c.then_some.ensures some in
          let same : inside ≡ c.args.words = same_text inside c.args.words (sym equal ∙ c.eq.ensures) in
          subst AreNameWords same (bytes_of inside, c.name.invariant.named, c.name.invariant.whole),
      λ words.
          let read : name ≡ c.text_in.result.now =
          IfOk-at_some (λ x. x ≡ c.text_in.result.now) c.read.result name c.read.ensures.same c.in_ok-name.ensures.value in
          let same : inside ≡ c.args.words =
          sym c.name.invariant.whole ∙ ap words_of (c.name.view_is ∙ read ∙ text) ∙ (packed_from_words c.args.words words).whole in
          some-from_true c.eq.result name c.then_some.result c.then_some.ensures (c.eq.ensures ∙ (bytes_eq-Decides inside c.args.words).1 same),
    )
