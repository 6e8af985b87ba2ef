use Rattle.std.proofs.Common.{rules, arith, ◌≡◌, ◌∙◌, sym, ap, ◌*◌, ◌++◌, ◌/◌, length, [], get_or, take, drop}
use Rattle.std.proofs.Common.{append_assoc, take-append-drop}
use Rattle.std.proofs.lemmas.Grind.{common_steps}
use Rattle.bus_text.specs.Listing.{hex_of}
use Rattle.bus_text.proofs.HexLemmas.{hex_append, hex_chunk}
use Rattle.bus_text.proofs.hex_digits.push_hex.Goals as goal

pub loop-chunk-preserved : goal.loop-chunk-preserved
loop-chunk-preserved g c =
    let octets = c.args.octets.now in
    let index = c.loop-chunk.chunk-index in
    let chunk = get_or c.as_chunks.result.0.now index [] in
    record {
      bytes =
          c.push_octets.ensures
          ∙ ap (λ digits. c.loop-chunk.text.items ++ digits) c.digits_of.ensures
          ∙ ap (λ text. text ++ hex_of chunk) c.loop-chunk.invariant.bytes
          ∙ append_assoc c.args.text.now.items (hex_of (take (16 * index) octets)) (hex_of chunk)
          ∙ ap (λ digits. c.args.text.now.items ++ digits)
          (ap (λ chunks. hex_of (take (16 * index) octets) ++ hex_of (get_or chunks index [])) c.as_chunks.ensures.front
          ∙ hex_chunk 16 index octets (length octets / 16)
          (omega (arith, c.loop-chunk-test.true, c.as_chunks.ensures.front_len)));
      len =
          let two : length c.digits_of.result ≡ 32 = search rules in
          grind (arith, common_steps, two, c.push_octets.ensures, c.loop-chunk.invariant.len);
    }

pub returns-clause-bytes : goal.returns-clause-bytes
returns-clause-bytes g c =
    let octets = c.args.octets.now in
    let text = c.args.text.now.items in
    let done = length octets / 16 * 16 in
    let index : 16 * c.loop-chunk.chunk-index ≡ done = omega (arith, c.as_chunks.ensures.front_len) in
    c.push_few.ensures.bytes
    ∙ ap (λ before. before ++ hex_of c.as_chunks.result.1.now) c.loop-chunk.invariant.bytes
    ∙ ap (λ n. (text ++ hex_of (take n octets)) ++ hex_of c.as_chunks.result.1.now) index
    ∙ ap (λ rest. (text ++ hex_of (take done octets)) ++ hex_of rest) c.as_chunks.ensures.back
    ∙ append_assoc text (hex_of (take done octets)) (hex_of (drop done octets))
    ∙ ap (λ digits. text ++ digits)
    (sym (hex_append (take done octets) (drop done octets)) ∙ ap hex_of (take-append-drop done octets))
