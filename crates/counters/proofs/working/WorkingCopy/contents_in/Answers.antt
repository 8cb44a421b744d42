use Rattle.std.proofs.Common.{◌≡◌, ◌∙◌, get_or, rules}
use Rattle.std.specs.Option.{option_map_or}
use Rattle.counters.specs.Working.{contents_in, read_place}
use Rattle.counters.proofs.Laws.Places.{held_at}
use Rattle.counters.proofs.working.WorkingCopy.contents_in.Goals as goal

pub returns : goal.returns
unfolding contents_in
returns c =
    let values = c.args.self.now.values in
    let told : c.map_or.result ≡ option_map_or (λ place. get_or values place 0) c.place_in.result 0 = search rules in
    told ∙ held_at values (read_place c.args.meaning.now c.args.number) (search rules) c.place_in.ensures
