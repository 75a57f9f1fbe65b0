use Rattle.std.proofs.Common.{◌≡◌, ◌-◌, List, length, take, drop, map, sym, ◌∙◌, arith, length-drop}
use Rattle.std.proofs.lemmas.Result.{IfOk-weaker}
use Rattle.std.specs.List.{AllByRecursion}
use Rattle.std.proofs.lemmas.List.{take_all}
use Rattle.ad_entity.specs.declared.entities.Entity.{Entity}
use Rattle.ad_command.specs.Command.{IsSeedEntity, seed_word}
use Rattle.ad_command.proofs.WordLemmas.{module_words}
use Rattle.ad_command.proofs.seed.named_seed.Goals as goal

pub returns : goal.returns
returns c = IfOk-weaker c.seed_of.result _ _
    (λ (seed : List Entity) (known : AllByRecursion IsSeedEntity seed × (take (length c.args.words.now - 2) (drop 2 c.args.words.now) ≡ map seed_word seed)).
    module_words c.args.words.now c.args.kind seed c.requires known.0 (sym (take_all (length c.args.words.now - 2) (drop 2 c.args.words.now) (omega (arith, length-drop 2 c.args.words.now))) ∙ known.1))
    c.seed_of.ensures
