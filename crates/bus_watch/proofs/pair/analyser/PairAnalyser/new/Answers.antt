use Rattle.std.proofs.Common.{[], sym, ap, ◌∙◌, arith}
use Rattle.bus_dictionary.specs.Dictionary.{longest_of}
use Rattle.bus_watch.proofs.pair.analyser.PairAnalyser.new.Goals as goal

pub invariant_of-result : goal.invariant_of-result
invariant_of-result g c =
    let made = c.in-Ok-new-2.ensures in
    record {
      depth = omega (arith, made.given.1, c.if-depth-gt1024.false);
      pairs = [];
      reached = record {
        first = c.in-Ok.ensures.after;
        second = c.in-Ok-new.ensures.after;
        origin = c.in-Ok-new.ensures.given.1 ∙ sym c.in-Ok.ensures.given.1;
        longest = c.in-Ok.ensures.given.0 ∙ c.longest-longest.ensures.value ∙ ap longest_of (sym made.given.0);
        longest_second = c.in-Ok-new.ensures.given.0 ∙ c.longest-longest.ensures.value
            ∙ ap longest_of (sym made.given.0);
        conversation = made.keeps;
      };
    }
