use Rattle.data_list.proofs.KeyLemmas.{name_kept_is}
use Rattle.data_list.proofs.target.Next.name.Goals as goal

pub returns : goal.returns
returns c =
    let told = c.of_words.ensures in
    name_kept_is c.args.self.now.anchor c.of_words.result told.some told.name told.words
