-- What is put so far: the front of the words, spliced in.
use Rattle.std.proofs.Common.{◌≡◌, take}
use Rattle.wire.specs.Bytes.{splice}
use Rattle.spdm_responder.proofs.put_words.Given as goal

abbrev pub invariant-loop-i : goal.invariant-loop-i
invariant-loop-i l = l.buffer ≡ splice l.fn.buffer 0 (take l.i l.words)
