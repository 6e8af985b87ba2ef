use Rattle.std.proofs.Common.{◌<◌, ◌/◌, ◌^◌, ◌∷◌, [], refl, bit_and, bit_or, get_or, length, ap, ◌∙◌, arith, w64}
use Rattle.std.proofs.lemmas.Simd.{below_from_Fits, get_or-replicate, get_or-zip2, Each1-get_or}
use Rattle.bus_formats.proofs.PairWordsLemmas.{even-bits}
use Rattle.bus_formats.proofs.pair_words.even_bits.Goals as goal

pub returns : goal.returns
returns c = λ j two.
    let word = get_or c.args.words j 0 in
    let within : j < length c.args.words = omega (arith, two, c.fits-words.0) in
    let ones = get_or-zip2 bit_and c.args.words (6148914691236517205 ∷ 6148914691236517205 ∷ []) j 0 0 0 within two
    ∙ ap (bit_and word) (get_or-replicate 2 j 6148914691236517205 0 two) in
    even-bits word (bit_and word 6148914691236517205) (get_or c.closer-twos.result j 0)
    (get_or c.closer-fours.result j 0)
    (get_or c.closer-eights.result j 0) (get_or c.closer-sixteens.result j 0) (get_or c.closer.result j 0) (record {
      fits = Each1-get_or (λ n. n < 2 ^ 64) c.args.words j 0 within (below_from_Fits w64 c.args.words c.fits-words.1);
      ones = refl;
      twos = c.closer-twos.ensures j two ∙ ap (λ n. bit_and (bit_or n (n / 2)) 3689348814741910323) ones;
      fours = c.closer-fours.ensures j two;
      eights = c.closer-eights.ensures j two;
      sixteens = c.closer-sixteens.ensures j two;
      all = c.closer.ensures j two;
    })
