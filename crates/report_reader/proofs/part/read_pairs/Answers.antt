use Rattle.std.proofs.Common.{◌≡◌, ◌∷◌, ◌++◌, ◌∙◌, [], cond, List, ℕ, ap, refl, sym, subst, append_assoc}
use Rattle.std.proofs.lemmas.Bool.{false≢true}
use Rattle.std.proofs.lemmas.List.Concat.{flat_map-append}
use Rattle.std.proofs.lemmas.List.Elements.{All-push}
use Rattle.std.specs.Prelude.{All, flat_map}
use Rattle.cat_key.specs.declared.Pair.{Pair}
use Rattle.cat_history.specs.Scans.{Rise}
use Rattle.cat_text.specs.ReportGrammar.{IsReportPair}
use Rattle.cat_text.specs.ReportLines.{pair_fields}
use Rattle.report_reader.specs.Fields.{fields_behind}
use Rattle.report_reader.proofs.PartLaws.{pair_comes, one_pair, rise_first}
use Rattle.report_reader.proofs.part.read_pairs.Goals as goal

pub returns-in_default-read_pair-clause-err : goal.returns-in_default-read_pair-clause-err
returns-in_default-read_pair-clause-err c = λ all says.
    let inv = c.loop-name.invariant in
    let done = c.loop-name.pairs.items in
    let comes = pair_comes done all (fields_behind c.args.rest.now) c.in-Some.name.now (fields_behind c.in-Some.more.now) inv.pairs_are says
    (inv.fields ∙ ap (λ (l : List (List ℕ)). flat_map pair_fields done ++ l) c.in-Some.ensures.some) in
    c.in_default-read_pair.ensures.none refl comes.0 (flat_map pair_fields comes.1) comes.3 comes.4

pub returns-then-not-rises-clause-err : goal.returns-then-not-rises-clause-err
returns-then-not-rises-clause-err c = λ all says.
    let inv = c.loop-name.invariant in
    let done = c.loop-name.pairs.items in
    let read = c.in-Some-read_pair.ensures.some in
    let pair = c.in-Some-read_pair.pair in
    let comes = pair_comes done all (fields_behind c.args.rest.now) c.in-Some.name.now (fields_behind c.in-Some.more.now) inv.pairs_are says
    (inv.fields ∙ ap (λ (l : List (List ℕ)). flat_map pair_fields done ++ l) c.in-Some.ensures.some) in
    let same : comes.0 ≡ pair = one_pair comes.0 pair (flat_map pair_fields comes.1) (fields_behind c.in-Some-read_pair.more.now) comes.3 read.0 (sym comes.4 ∙ read.1) in
    let rise : Rise (done ++ comes.0 ∷ []) = rise_first done comes.0 comes.1 (subst Rise comes.2 says.1) in
    false≢true ((c.if-not-rises.ensures pair.value).1 (subst (λ (l : List Pair). Rise (l ++ pair ∷ [])) (sym c.deref.ensures.value) (subst (λ (p : Pair). Rise (done ++ p ∷ [])) same rise)))

pub loop-name-preserved : goal.loop-name-preserved
loop-name-preserved c =
    let inv = c.loop-name.invariant in
    let done = c.loop-name.pairs.items in
    let read = c.in-Some-read_pair.ensures.some in
    let pair = c.in-Some-read_pair.pair in
    let behind = fields_behind c.in-Some-read_pair.more.now in
    let items : c.push.new.self.items ≡ done ++ pair ∷ [] = c.push.ensures.items ∙ ap (λ t. cond t (done ++ pair ∷ []) done) c.if-is_err.ensures.negation in
    record {
      fields =
          inv.fields ∙ ap (λ (l : List (List ℕ)). flat_map pair_fields done ++ l) (c.in-Some.ensures.some ∙ read.1)
          ∙ sym (append_assoc (flat_map pair_fields done) (pair_fields pair) behind)
          ∙ ap (λ (l : List (List ℕ)). l ++ behind) (sym (flat_map-append pair_fields done (pair ∷ [])))
          ∙ ap (λ (l : List Pair). flat_map pair_fields l ++ behind) (sym items);
      pairs_are = subst (All IsReportPair) (sym items) (All-push IsReportPair done pair inv.pairs_are read.0);
      rise = subst Rise (sym items) (subst (λ (l : List Pair). Rise (l ++ pair ∷ [])) c.deref.ensures.value ((c.if-not-rises.ensures pair.value).0 refl));
    }
