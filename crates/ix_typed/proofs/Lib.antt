mod Parts
mod Types
mod ExprJudged
mod ExprCases
mod Assigning
mod Stating
mod Texting
