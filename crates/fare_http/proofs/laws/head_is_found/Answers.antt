use Rattle.fare_http.proofs.BringsLemmas.{head-of-taken, not-bad, not-early, within-limits}
use Rattle.fare_http.proofs.laws.head_is_found.Goals as goal

pub returns-clause-same : goal.returns-clause-same
returns-clause-same c bytes rest others head other has brings =
    (head-of-taken bytes brings.1.0 rest others brings.0 head other has brings.1.1 brings.1.2).0

pub returns-clause-whole : goal.returns-clause-whole
returns-clause-whole c bytes rest head has = not-early bytes rest head has

pub returns-clause-not_bad : goal.returns-clause-not_bad
returns-clause-not_bad c bytes more rest head has = not-bad bytes more rest head has

pub returns-clause-within : goal.returns-clause-within
returns-clause-within c bytes more rest head has = within-limits bytes more rest head has
