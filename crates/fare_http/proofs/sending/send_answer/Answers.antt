use Rattle.fare_http.proofs.SendingLemmas.{ten-digits}
use Rattle.fare_http.proofs.sending.send_answer.Goals as goal

pub returns-in-None-clause-whole : goal.returns-in-None-clause-whole
returns-in-None-clause-whole g c = rw (c.in-None.is, ten-digits) c.send_all.ensures.whole

pub returns-in-None-clause-prefix : goal.returns-in-None-clause-prefix
returns-in-None-clause-prefix g c = rw (c.in-None.is, ten-digits) c.send_all.ensures.prefix
