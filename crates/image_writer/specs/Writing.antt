-- What the writer makes of a first byte and records: the image, or a number. The tests are the reader's own (`read_all`).
use Rattle.std.specs.Prelude.{◌≡◌, List, [], ◌∷◌, ◌++◌, map, ℕ, length, get_or, take, drop, ltb, eqb}
use Rattle.wire.specs.Bytes.{splice}
use Rattle.wire.specs.Pick.{pick}
use Rattle.image.specs.Limits.{image_limit, image_version, identity_kind, chain_kind, measurement_kind, summary_kind, wrong_size, wrong_version}
use Rattle.image.specs.Contents.{Contents, identity_body, chain_body, measurement_body, summary_body, record_bytes}
use Rattle.image.specs.Reading.{Result, number, found, Frames, ended, frame, read_all}
use Rattle.image_writer.specs.declared.Record.{Record as Lent}

-- "the lent output is shorter than the image"
abbrev pub short_output : ℕ
short_output = 18

-- "the records, each a kind and a body"
pub record Record : Type 0 where
  pub kind : ℕ
  pub body : List ℕ

-- the records that the slices of a call are: one for each kind; its body is as many of the bytes that are left as its length says, 0 where
-- there is no length, and fewer where the bytes end sooner
abbrev pub records_in : List ℕ → List ℕ → List ℕ → List Record
records_in [] lengths bodies = []
records_in (k ∷ kinds) lengths bodies =
    record { kind = k; body = take (get_or lengths 0 0) bodies } ∷ records_in kinds (drop 1 lengths) (drop (get_or lengths 0 0) bodies)

-- the record that a lent one is, and those that a slice of them is
abbrev pub record_in : Lent → Record
record_in r = record { kind = r.kind; body = r.body.now }

abbrev pub records_lent : List Lent → List Record
records_lent rs = map record_in rs

-- the records as the reader's rules take them: nothing breaks off
abbrev pub framed : List Record → Frames
framed [] = ended
framed (r ∷ rs) = frame r.kind r.body (framed rs)

-- the image: the first byte, then the records, one behind the other
unfoldable pub joined : List Record → List ℕ
joined [] = []
joined (r ∷ rs) = record_bytes r.kind r.body ++ joined rs

abbrev pub image_of : ℕ → List Record → List ℕ
image_of first rs = first ∷ joined rs

-- "refuses with the same numbers 2 and 4 to 8 as the reader, then 1 when the result would be too long"
unfoldable pub sized : Result Contents → List ℕ → Result (List ℕ)
sized (number k) b = number k
sized (found c) b = pick (ltb image_limit (length b)) (number wrong_size) (found b)

unfoldable pub writing : ℕ → List Record → Result (List ℕ)
writing first rs = pick (eqb first image_version) (sized (read_all (framed rs)) (image_of first rs)) (number wrong_version)

-- "then new number 18 when the lent output is shorter than the image"
unfoldable pub lent : ℕ → Result (List ℕ) → Result (List ℕ)
lent room (number k) = number k
lent room (found b) = pick (ltb room (length b)) (number short_output) (found b)

-- what the writer answers, the number or the image's length, and the bytes that it writes: "A refusal writes nothing"
abbrev pub answer_of : Result (List ℕ) → Result ℕ
answer_of (number k) = number k
answer_of (found b) = found (length b)

abbrev pub bytes_of : Result (List ℕ) → List ℕ
bytes_of (number k) = []
bytes_of (found b) = b

-- the promise of a writer that is lent an output: "bytes past the image stay"
pub record Wrote (out out' : List ℕ) (answer : Result ℕ) (w : Result (List ℕ)) : Type 0 where
  pub answered : answer ≡ answer_of (lent (length out) w)
  pub put : out' ≡ splice out 0 (bytes_of (lent (length out) w))

-- the records that contents are
abbrev pub records_for : {A : Type 0} → ℕ → (A → List ℕ) → List A → List Record
records_for kind body xs = map (λ x. record { kind = kind; body = body x }) xs

unfoldable pub records_of : Contents → List Record
records_of c =
    record { kind = identity_kind; body = identity_body c.identity }
    ∷ (records_for chain_kind chain_body c.chains
    ++ (records_for measurement_kind measurement_body c.measurements
    ++ records_for summary_kind summary_body c.summaries))
