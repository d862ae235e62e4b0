mod Behaviours
mod Answers
